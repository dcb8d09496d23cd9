-- Forms read back, and nothing else is read.
use Rattle.std.specs.Prelude.{◌≡◌, ℕ, ◌+◌, ◌-◌, ◌*◌, ◌/◌, ◌%◌, ◌<◌, ◌≤◌, Bool, true, false, cond, ◌&&◌, ℤ, pos, negsuc, ◌≤ℤ◌, Some, None, Option, ◌==◌, ◌≢◌, nat_le, is_some, IsSome, IfSome, refl}
use Rattle.std.proofs.Common.{ap, sym, ◌∙◌, arith}
use mathlib.Core.HLevel.{is_prop→PathP}
use denote.Struct.Props.{props}
use Rattle.std.proofs.lemmas.Int.{ints}
use Rattle.std.proofs.lemmas.Bool.{leb-true, le-leb, lt-leb, eqb-true, ne_eqb, and_from, cond-true, cond-false}
use Rattle.kinds.specs.Ranges.{InRange, seats_value, seats_fit, teacher_fits, classroom_fits}
use Rattle.kinds.specs.Forms.{given_that, seats_form, seats_parse, place_form, place_parse}
use Rattle.kinds.specs.declared.seats.Seats.{Seats}
use Rattle.kinds.specs.declared.place.Numbered.{Numbered}
use Rattle.kinds.specs.declared.place.Place.{Place}
use Rattle.kinds.specs.declared.place.Place.TheVariants.{Vacant, Held}

none_some : {A : Type 0} (x : A) → ◌≡◌ {A = Option A} None (Some x) → ⊥
none_some x e = cc

some_is : {A : Type 0} (x y : A) → ◌≡◌ {A = Option A} (Some x) (Some y) → x ≡ y
some_is x y e = cc

given_some : {A : Type 0} (b : Bool) (f : b ≡ true → Option A) (k : Option A) → b ≡ true → ((q : b ≡ true) → f q ≡ k) → given_that b f ≡ k
given_some true f k e h = h refl
given_some false f k e h = cc

given_none : {A : Type 0} (b : Bool) (f : b ≡ true → Option A) → b ≡ false → given_that b f ≡ None
given_none true f e = cc
given_none false f e = refl

given_is : {A : Type 0} (b : Bool) (f : b ≡ true → Option A) (x : A) → given_that b f ≡ Some x → (q : b ≡ true) × (f q ≡ Some x)
given_is true f x e = (refl, e)
given_is false f x e = absurd (none_some x e)

-- seats

same_seats : (v w : Seats) → v.value ≡ w.value → v ≡ w
same_seats v w e j = record {
  value = e j;
  fits = is_prop→PathP (λ k. (negsuc 32767 ≤ℤ e k) × (e k ≤ℤ pos 32767)) (λ k. hlevel props) v.fits w.fits j;
}

value_form : (z : ℤ) → negsuc 32767 ≤ℤ z → z ≤ℤ pos 32767 → (seats_form z ≤ 65535) × (seats_value (seats_form z) ≡ z)
value_form (pos n) l h =
    let k : n ≤ 32767 = omega (arith, ints) in
    let m : n ≤ 65535 = omega arith in
    (m, cond-true (nat_le n 32767) (pos n) (negsuc (65535 - n)) (le-leb n 32767 k))
value_form (negsuc n) l h =
    let k : n ≤ 32767 = omega (arith, ints) in
    let m : 65535 - n ≤ 65535 = omega arith in
    let b : 32767 < 65535 - n = omega arith in
    let r : 65535 - (65535 - n) ≡ n = omega arith in
    (m, cond-false (nat_le (65535 - n) 32767) (pos (65535 - n)) (negsuc (65535 - (65535 - n))) (lt-leb (65535 - n) 32767 b) ∙ ap negsuc r)

form_value : (n : ℕ) → n ≤ 65535 → seats_form (seats_value n) ≡ n
form_value n le = go (nat_le n 32767)
  where
    go : (b : Bool) → seats_form (cond b (pos n) (negsuc (65535 - n))) ≡ n
    go true = refl
    go false = let r : 65535 - (65535 - n) ≡ n = omega arith in r

pub seats_back : (v : Seats) → seats_parse (seats_form v.value) ≡ Some v
seats_back v =
    let p = value_form v.value v.fits.0 v.fits.1 in
    given_some (nat_le (seats_form v.value) 65535) _ (Some v) (le-leb (seats_form v.value) 65535 p.0)
    (λ q. ap Some (same_seats (record { value = seats_value (seats_form v.value); fits = seats_fit (seats_form v.value) q }) v p.1))

pub seats_only : (n : ℕ) (v : Seats) → seats_parse n ≡ Some v → n ≡ seats_form v.value
seats_only n v e =
    let p = given_is (nat_le n 65535) _ v e in
    let q = some_is _ v p.1 in
    sym (form_value n (leb-true n 65535 p.0)) ∙ ap (λ (w : Seats). seats_form w.value) q

pub seats_bounded : (v : Seats) → seats_form v.value ≤ 65535
seats_bounded v = (value_form v.value v.fits.0 v.fits.1).0

pub seats_attained : is_some (seats_parse 65535) ≡ true
seats_attained = refl

pub seats_none : (n : ℕ) → 65535 < n → seats_parse n ≡ None
seats_none n lt = given_none (nat_le n 65535) _ (lt-leb n 65535 lt)

pub seats_read : (n : ℕ) (v : Seats) → seats_form v.value ≡ n → Some v ≡ seats_parse n
seats_read n v e = sym (seats_back v) ∙ ap seats_parse e

-- places

same_number : {most : ℕ} (v w : Numbered most) → v.number ≡ w.number → v ≡ w
same_number {most} v w e j = record {
  number = e j;
  in_range = is_prop→PathP (λ k. InRange most (e k)) (λ k. hlevel props) v.in_range w.in_range j;
}

abbrev is_held : ℕ → Bool
is_held n = nat_le 1 (n / 1000) && (nat_le (n / 1000) 9999 && nat_le 1 (n % 1000))

held_parse : (n : ℕ) → (n == 0) ≡ false → place_parse n ≡ given_that (is_held n) (λ e. Some (Held (record { number = n / 1000; in_range = teacher_fits n e }) (record { number = n % 1000; in_range = classroom_fits n e })))
held_parse n e = cond-false (n == 0) _ _ e

pub place_back : (v : Place) → place_parse (place_form v) ≡ Some v
place_back Vacant = refl
place_back (Held t c) =
    let n = t.number * 1000 + c.number in
    let tl = t.in_range.0 in
    let th = t.in_range.1 in
    let cl = c.in_range.0 in
    let ch = c.in_range.1 in
    let a : n / 1000 ≡ t.number = omega arith in
    let b : n % 1000 ≡ c.number = omega arith in
    let a1 : 1 ≤ n / 1000 = omega arith in
    let a2 : n / 1000 ≤ 9999 = omega arith in
    let b1 : 1 ≤ n % 1000 = omega arith in
    held_parse n (ne_eqb n 0 (λ z. omega arith))
    ∙ given_some (is_held n) _ (Some (Held t c))
    (and_from (nat_le 1 (n / 1000)) (nat_le (n / 1000) 9999 && nat_le 1 (n % 1000)) (le-leb 1 (n / 1000) a1)
    (and_from (nat_le (n / 1000) 9999) (nat_le 1 (n % 1000)) (le-leb (n / 1000) 9999 a2) (le-leb 1 (n % 1000) b1)))
    (λ q. let p = same_number (record { number = n / 1000; in_range = teacher_fits n q }) t a in
    let r = same_number (record { number = n % 1000; in_range = classroom_fits n q }) c b in
    λ j. Some (Held (p j) (r j)))

pub place_only : (n : ℕ) (v : Place) → place_parse n ≡ Some v → n ≡ place_form v
place_only n v e = go (n == 0) refl
  where
    go : (b : Bool) → (n == 0) ≡ b → n ≡ place_form v
    go true q = eqb-true n 0 q ∙ ap place_form (some_is Vacant v (sym (cond-true (n == 0) _ _ q) ∙ e))
    go false q =
        let p = given_is (is_held n) _ v (sym (held_parse n q) ∙ e) in
        let s : n ≡ n / 1000 * 1000 + n % 1000 = omega arith in
        s ∙ ap place_form (some_is _ v p.1)

pub place_bounded : (v : Place) → place_form v ≤ 9999999
place_bounded Vacant = omega arith
place_bounded (Held t c) = let th = t.in_range.1 in let ch = c.in_range.1 in omega arith

pub place_attained : is_some (place_parse 9999999) ≡ true
place_attained = refl

pub place_read : (n : ℕ) (v : Place) → place_form v ≡ n → Some v ≡ place_parse n
place_read n v e = sym (place_back v) ∙ ap place_parse e

-- a number that has no teacher, or no classroom
pub place_none : (n : ℕ) → (n ≢ 0) → ((v : Place) → place_form v ≢ n) → place_parse n ≡ None
place_none n nz absent = go (place_parse n) refl
  where
    go : (k : Option Place) → place_parse n ≡ k → k ≡ None
    go None q = refl
    go (Some v) q = absurd (absent v (sym (place_only n v q)))

-- the place of a number's teacher and classroom, if there is one
pub place_by_parts : (n t c : ℕ) (o : Option Place) → n ≢ 0 → t ≡ n / 1000 → c ≡ n % 1000
    → (InRange 9999 t × InRange 999 c → IsSome o) → IfSome o (λ p. place_form p ≡ t * 1000 + c) → o ≡ place_parse n
place_by_parts n t c None nz tn cn in_range value = sym (place_none n nz absent)
  where
    absent : (v : Place) → place_form v ≢ n
    absent Vacant e = nz (sym e)
    absent (Held u d) e =
        let tl = u.in_range.0 in
        let th = u.in_range.1 in
        let cl = d.in_range.0 in
        let ch = d.in_range.1 in
        let some : ◌≡◌ {A = Bool} false true = in_range ((omega arith, omega arith), (omega arith, omega arith)) in cc
place_by_parts n t c (Some p) nz tn cn in_range value = place_read n p (omega (arith, value))
