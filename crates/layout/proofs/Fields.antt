-- Laws of numbers in bytes.
use Rattle.std.proofs.Common.{◌≡◌, ℕ, zero, suc, ◌+◌, ◌*◌, ◌/◌, ◌%◌, ◌^◌, ◌<◌, ◌≤◌, ◌⊎◌, eqb, List, [], ◌∷◌, ◌++◌, true, length, get_or, take, drop, sym, refl, ap, ◌∙◌, subst, inl, inr, ⊎_elim, pow-suc, zero-add, add-zero, add-one, arith, rules}
use borrow.Rule.Slice.PartMut.{put_mid}
use Rattle.std.proofs.lemmas.List.{places, length_push, get_or_push, get_or_append_left, drop-drop}
use Rattle.std.proofs.lemmas.Bool.{cases_lt, cases_eq, eqb-true, eq-eqb, le-leb, lt-leb, cond-true, cond-false}
use Rattle.std.proofs.lemmas.Bool.Decides.{same_from_decides, Decides-eqb}
use Rattle.std.specs.Int.{to_be_bytes, from_be_bytes, w16, w64}
use native.Mathlib.Nat.{div-div-eq-div-mul}
use denote.Param.Members.{Mut}
use Rattle.std.specs.Array.{IsFromFnResultFrom}
use Rattle.std.specs.Iterator.{ActsAs}
use Rattle.layout.specs.Field.{num, digits, put_bytes, put_num}
use Rattle.layout.specs.Layout.{each_below}
use Rattle.layout.proofs.Each.{below, below_from}

-- equal bytes hold equal numbers
pub num_alike : (cs : List ℕ) (a : ℕ) (bs : List ℕ) (b w : ℕ) → ((i : ℕ) → i < w → get_or cs (a + i) 0 ≡ get_or bs (b + i) 0) → num cs a w ≡ num bs b w
unfolding num
num_alike cs a bs b zero h = refl
num_alike cs a bs b (suc w) h =
    let e : num cs a w ≡ num bs b w = num_alike cs a bs b w (λ i l. h i (omega arith)) in
    let f : get_or cs (a + w) 0 ≡ get_or bs (b + w) 0 = h w (omega arith) in
    omega arith

pub length_digits : (w v : ℕ) → length (digits w v) ≡ w
length_digits zero v = refl
length_digits (suc w) v = length_push (digits w (v / 256)) (v % 256) ∙ omega (arith, length_digits w (v / 256))

pub num_digits : (w v : ℕ) → v < 256 ^ w → num (digits w v) 0 w ≡ v
unfolding num
num_digits zero v l = omega arith
num_digits (suc w) v l =
    let m : 256 ^ suc w ≡ 256 ^ w * 256 = pow-suc 256 w in
    let q : v / 256 < 256 ^ w = omega arith in
    let a : num (digits (suc w) v) 0 w ≡ num (digits w (v / 256)) 0 w =
    num_alike _ 0 _ 0 w (λ i k. get_or_append_left (digits w (v / 256)) (v % 256 ∷ []) 0 (0 + i) (omega (arith, length_digits w (v / 256)))) in
    let b : get_or (digits (suc w) v) (0 + w) 0 ≡ v % 256 = get_or_push (digits w (v / 256)) (v % 256) 0 (0 + w) (omega (arith, length_digits w (v / 256))) in
    omega (arith, num_digits w (v / 256) q)

-- a write of bytes, where it fits and where it does not
pub put_fits : (bs : List ℕ) (at : ℕ) (ds : List ℕ) → at + length ds ≤ length bs → put_bytes bs at ds ≡ take at bs ++ (ds ++ drop (at + length ds) bs)
unfolding put_bytes
put_fits bs at ds h = cond-true _ _ _ (le-leb _ _ h)

pub put_unfit : (bs : List ℕ) (at : ℕ) (ds : List ℕ) → length bs < at + length ds → put_bytes bs at ds ≡ bs
unfolding put_bytes
put_unfit bs at ds h = cond-false _ _ _ (lt-leb _ _ h)

pub length_put : (bs : List ℕ) (at : ℕ) (ds : List ℕ) → length (put_bytes bs at ds) ≡ length bs
length_put bs at ds =
    ⊎_elim
    (λ h. ap length (put_unfit bs at ds h))
    (λ h. rw (put_fits bs at ds h) (search (rules, places)))
    (cases_lt (length bs) (at + length ds))

-- the bytes after a write, in its place and elsewhere
pub get_or_put_same : (bs : List ℕ) (at : ℕ) (ds : List ℕ) (i : ℕ) → at + length ds ≤ length bs → i < length ds → get_or (put_bytes bs at ds) (at + i) 0 ≡ get_or ds i 0
get_or_put_same bs at ds i h l = rw (put_fits bs at ds h) (search (rules, places))

pub get_or_put_other : (bs : List ℕ) (at : ℕ) (ds : List ℕ) (i : ℕ) → (i < at) ⊎ (at + length ds ≤ i) → get_or (put_bytes bs at ds) i 0 ≡ get_or bs i 0
get_or_put_other bs at ds i o =
    ⊎_elim
    (λ h. ap (λ cs. get_or cs i 0) (put_unfit bs at ds h))
    (λ h. rw (put_fits bs at ds h) (elim o [ inl b ↦ search (rules, places) | inr a ↦ search (rules, places) ]))
    (cases_lt (length bs) (at + length ds))

-- a number after it is written, and after another is written elsewhere
pub num_put_same : (bs : List ℕ) (at w v : ℕ) → at + w ≤ length bs → v < 256 ^ w → num (put_num bs at w v) at w ≡ v
num_put_same bs at w v h l =
    num_alike (put_num bs at w v) at (digits w v) 0 w
    (λ i k. get_or_put_same bs at (digits w v) i (omega (arith, length_digits w v)) (omega (arith, length_digits w v)) ∙ ap (λ j. get_or (digits w v) j 0) (sym (zero-add i)))
    ∙ num_digits w v l

pub num_put_other : (bs : List ℕ) (at w v from n : ℕ) → (from + n ≤ at) ⊎ (at + w ≤ from) → num (put_num bs at w v) from n ≡ num bs from n
num_put_other bs at w v from n (inl b) = num_alike _ from bs from n (λ i l. get_or_put_other bs at (digits w v) (from + i) (inl (omega arith)))
num_put_other bs at w v from n (inr a) = num_alike _ from bs from n (λ i l. get_or_put_other bs at (digits w v) (from + i) (inr (omega (arith, length_digits w v))))

-- a copy into `bytes[at..at + k]`
pub put_mid_lem : (bs : List ℕ) (at k : ℕ) (ys ds : List ℕ) → ys ≡ ds → k ≡ length ds → at + length ds ≤ length bs → put_mid at k bs ys ≡ put_bytes bs at ds
put_mid_lem bs at k ys ds e f h =
    ap (λ zs. take at bs ++ (zs ++ drop k (drop at bs))) e ∙ ap (λ zs. take at bs ++ (ds ++ zs)) (drop-drop k at bs ∙ ap (λ n. drop (at + n) bs) f) ∙ sym (put_fits bs at ds h)

pub num_more : (bs : List ℕ) (at i : ℕ) → num bs at (i + 1) ≡ num bs at i * 256 + get_or bs (at + i) 0
unfolding num
num_more bs at i = rw add-one refl

pub num_grows : (bs : List ℕ) (at i n : ℕ) → i ≤ n → num bs at i ≤ num bs at n
unfolding num
num_grows bs at i zero l = let e : i ≡ 0 = omega arith in rw e (omega arith)
num_grows bs at i (suc n) l =
    ⊎_elim (λ e. rw e (omega arith)) (λ e. omega (arith, num_grows bs at i n (omega arith))) (cases_eq i (suc n))

pub length_put_num : (bs : List ℕ) (at w v : ℕ) → length (put_num bs at w v) ≡ length bs
length_put_num bs at w v = length_put bs at (digits w v)

-- a number that was read from its bytes, the highest first
pub one_at : (bs : List ℕ) (at n : ℕ) → n ≡ get_or bs at 0 → n ≡ num bs at 1
unfolding num
one_at bs at n e = let f : get_or bs (at + 0) 0 ≡ get_or bs at 0 = ap (λ i. get_or bs i 0) (add-zero at) in omega arith

pub two_at : (bs cs : List ℕ) (at n : ℕ) → n ≡ from_be_bytes w16 cs → ((i : ℕ) → i < 2 → get_or cs i 0 ≡ get_or bs (at + i) 0) → n ≡ num bs at 2
unfolding num
two_at bs cs at n e h = omega (arith, e, h 0, h 1)

pub eight_at : (bs cs : List ℕ) (at n : ℕ) → n ≡ from_be_bytes w64 cs → ((i : ℕ) → i < 8 → get_or cs i 0 ≡ get_or bs (at + i) 0) → n ≡ num bs at 8
unfolding num
eight_at bs cs at n e h = omega (arith, e, h 0, h 1, h 2, h 3, h 4, h 5, h 6, h 7)

-- a number that was written as its bytes
pub one_put : (bs cs ds : List ℕ) (at v : ℕ) → cs ≡ put_bytes bs at ds → ds ≡ v ∷ [] → v < 256 → cs ≡ put_num bs at 1 v
one_put bs cs ds at v p e l = p ∙ ap (put_bytes bs at) (e ∙ ap (λ d. d ∷ []) (omega arith))

pub two_put : (bs cs ds : List ℕ) (at v : ℕ) → cs ≡ put_bytes bs at ds → ds ≡ to_be_bytes w16 v → cs ≡ put_num bs at 2 v
two_put bs cs ds at v p e = p ∙ ap (put_bytes bs at) e

pub eight_put : (bs cs ds : List ℕ) (at v : ℕ) → cs ≡ put_bytes bs at ds → ds ≡ to_be_bytes w64 v → cs ≡ put_num bs at 8 v
eight_put bs cs ds at v p e = simp div-div-eq-div-mul (p ∙ ap (put_bytes bs at) e)

-- what `array::from_fn` makes of a function
pub made_at : {F : Type 0} (g : Mut F (ℕ × Unit {0}) ℕ) (f : F) (h : ℕ → ℕ) (ys : List ℕ) (i n : ℕ) → ActsAs g f h → IsFromFnResultFrom g f ys i n → (k : ℕ) → i ≤ k → k < i + n → get_or ys k 0 ≡ h k
made_at g f h ys i zero t m k l u = absurd (omega arith)
made_at g f h ys i (suc n) t m k l u =
    let a = t i m.1 m.0 m.3 in
    ⊎_elim (λ e. ap (λ j. get_or ys j 0) e ∙ m.2.1 0 ∙ a.1 ∙ ap h (sym e))
    (λ e. made_at g f h ys (i + 1) n t (subst (λ q. IsFromFnResultFrom g q ys (i + 1) n) a.0 m.4) k (omega arith) (omega arith))
    (cases_eq k i)

-- bytes are zero exactly if their number is
zero_num : (bs : List ℕ) (at n : ℕ) → ((i : ℕ) → i < n → eqb (get_or bs (at + i) 0) 0 ≡ true) → num bs at n ≡ 0
unfolding num
zero_num bs at zero h = refl
zero_num bs at (suc n) h = omega (arith, zero_num bs at n (λ i l. h i (omega arith)), eqb-true _ _ (h n (omega arith)))

pub all_zero : (bs : List ℕ) (at n : ℕ) → each_below n (λ i. eqb (get_or bs (at + i) 0) 0) ≡ eqb (num bs at n) 0
all_zero bs at n =
    same_from_decides {P = num bs at n ≡ 0} _ _ (
      (λ h. zero_num bs at n (below n _ h)),
      λ e. below_from n _ (λ i l. eq-eqb _ _ (omega (arith, e, num_more bs at i, num_grows bs at (i + 1) n (omega arith)))),
    )
    (Decides-eqb _ _)
