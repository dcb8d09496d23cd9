-- Bytes as rows of 32, written over zeros.
use Rattle.std.proofs.Common.{◌≡◌, ℕ, zero, suc, ◌+◌, ◌-◌, ◌*◌, ◌^◌, ◌<◌, ◌≤◌, List, [], ◌∷◌, ◌++◌, length, get_or, drop, sym, refl, ap, ◌∙◌, add-zero, arith}
use Rattle.std.specs.List.{flat_map}
use Rattle.std.proofs.lemmas.List.{append_assoc, length-append, length-replicate, replicate-append-replicate, take_at, drop_at, get_or_append_left, get_or-append-add}
use Rattle.history.specs.declared.item.Item.{Item}
use Rattle.history.specs.Chain.{fresh_item}
use Rattle.layout.specs.Field.{num, digits, put_bytes, put_num}
use Rattle.layout.specs.Layout.{magic, item_at, next_at, pad_at}
use Rattle.layout.specs.Laid.{zeros, after, head, row, with_rows}
use Rattle.layout.proofs.Fields.{num_alike, num_digits, length_digits, put_fits}

length_zeros : (n : ℕ) → length (zeros n) ≡ n
length_zeros n = length-replicate n 0

zeros_split : (a b n : ℕ) → n ≡ a + b → zeros n ≡ zeros a ++ zeros b
zeros_split a b n e = ap zeros e ∙ sym (replicate-append-replicate a b 0)

-- a write where zeros begin
put_zeros : (A ds : List ℕ) (at n : ℕ) → length A ≡ at → length ds ≤ n → put_bytes (A ++ zeros n) at ds ≡ A ++ (ds ++ zeros (n - length ds))
put_zeros A ds at n e l =
    let w : ℕ = length ds in
    let s : A ++ zeros n ≡ (A ++ zeros w) ++ zeros (n - w) = ap (λ xs. A ++ xs) (zeros_split w (n - w) n (omega arith)) ∙ sym (append_assoc A (zeros w) (zeros (n - w))) in
    let f : at + w ≤ length (A ++ zeros n) = omega (arith, length-append A (zeros n), length_zeros n) in
    let d : drop (at + w) (A ++ zeros n) ≡ zeros (n - w) =
    ap (drop (at + w)) s ∙ drop_at (A ++ zeros w) (zeros (n - w)) (at + w) (omega (arith, length-append A (zeros w), length_zeros w)) in
    put_fits (A ++ zeros n) at ds f ∙ ap (λ xs. xs ++ (ds ++ drop (at + w) (A ++ zeros n))) (take_at A (zeros n) at e) ∙ ap (λ xs. A ++ (ds ++ xs)) d

pub cleared : (long n m : ℕ) → 32 ≤ long → put_num (put_num (put_num (put_bytes (zeros long) 0 magic) 4 2 n) 6 2 m) 8 2 (after m n) ≡ head n m ++ zeros (long - 32)
cleared long n m l =
    ap (λ bs. put_num (put_num (put_num bs 4 2 n) 6 2 m) 8 2 (after m n)) (put_zeros [] magic 0 long refl (omega arith))
    ∙ ap (λ bs. put_num (put_num bs 6 2 m) 8 2 (after m n)) (put_zeros magic (digits 2 n) 4 (long - 4) refl (omega arith))
    ∙ ap (λ bs. put_num bs 8 2 (after m n)) (put_zeros (magic ++ digits 2 n) (digits 2 m) 6 (long - 4 - 2) refl (omega arith))
    ∙ put_zeros (magic ++ (digits 2 n ++ digits 2 m)) (digits 2 (after m n)) 8 (long - 4 - 2 - 2) refl (omega arith)
    ∙ ap (λ xs. magic ++ (digits 2 n ++ (digits 2 m ++ (digits 2 (after m n) ++ xs)))) (zeros_split 22 (long - 32) (long - 4 - 2 - 2 - 2) (omega arith))

length_row : (at w v : ℕ) → at + w ≤ 32 → length (row at w v) ≡ 32
length_row at w v l =
    omega (arith, length-append (zeros at) (digits w v ++ zeros (32 - (at + w))), length-append (digits w v) (zeros (32 - (at + w))), length_zeros at, length_digits w v, length_zeros (32 - (at + w)))

pub length_rows : (at w : ℕ) (vs : List ℕ) → at + w ≤ 32 → length (flat_map (row at w) vs) ≡ 32 * length vs
length_rows at w [] l = refl
length_rows at w (v ∷ vs) l = omega (arith, length-append (row at w v) (flat_map (row at w) vs), length_row at w v l, length_rows at w vs l)

-- one row over zeros, and rows that follow one another
put_row : (A : List ℕ) (k at w v n : ℕ) → length A ≡ 32 * k → at + w ≤ 32 → put_num (A ++ zeros (32 + n)) (32 * k + at) w v ≡ (A ++ row at w v) ++ zeros n
put_row A k at w v n e l =
    let b : ℕ = 32 - (at + w) in
    let d : length (digits w v) ≡ w = length_digits w v in
    ap (λ bs. put_num bs (32 * k + at) w v) (ap (λ xs. A ++ xs) (zeros_split at (w + (b + n)) (32 + n) (omega arith)) ∙ sym (append_assoc A (zeros at) (zeros (w + (b + n)))))
    ∙ put_zeros (A ++ zeros at) (digits w v) (32 * k + at) (w + (b + n)) (omega (arith, length-append A (zeros at), length_zeros at)) (omega arith)
    ∙ ap (λ xs. (A ++ zeros at) ++ (digits w v ++ xs)) (zeros_split b n (w + (b + n) - length (digits w v)) (omega arith))
    ∙ simp append_assoc

pub rows_laid : (at w : ℕ) (A : List ℕ) (k : ℕ) (vs : List ℕ) (n rest : ℕ) → at + w ≤ 32 → length A ≡ 32 * k → n ≡ 32 * length vs + rest → with_rows at w (A ++ zeros n) k vs ≡ A ++ (flat_map (row at w) vs ++ zeros rest)
rows_laid at w A k [] n rest l e f = ap (λ i. A ++ zeros i) (omega arith)
rows_laid at w A k (v ∷ vs) n rest l e f =
    ap (λ bs. with_rows at w bs (k + 1) vs) (ap (λ i. put_num (A ++ zeros i) (32 * k + at) w v) (omega arith) ∙ put_row A k at w v (32 * length vs + rest) e l)
    ∙ rows_laid at w (A ++ row at w v) (k + 1) vs (32 * length vs + rest) rest l (omega (arith, length-append A (row at w v), length_row at w v l)) refl
    ∙ simp append_assoc

-- a number in a row
num_shift : (A B : List ℕ) (at i n : ℕ) → at ≡ length A + i → num (A ++ B) at n ≡ num B i n
num_shift A B at i n e = num_alike (A ++ B) at B i n (λ j l. ap (λ k. get_or (A ++ B) k 0) (omega arith) ∙ get_or-append-add A B (i + j) 0)

num_front : (A B : List ℕ) (i n : ℕ) → i + n ≤ length A → num (A ++ B) i n ≡ num A i n
num_front A B i n l = num_alike (A ++ B) i A i n (λ j h. get_or_append_left A B 0 (i + j) (omega arith))

pub num_row : (at w : ℕ) (A : List ℕ) (a : ℕ) (vs C : List ℕ) (j k i n : ℕ) → at + w ≤ 32 → length A ≡ 32 * a → j < length vs → k ≡ a + j → i + n ≤ 32 → num (A ++ (flat_map (row at w) vs ++ C)) (32 * k + i) n ≡ num (row at w (get_or vs j 0)) i n
num_row at w A a [] C j k i n l e h q m = absurd (omega arith)
num_row at w A a (v ∷ vs) C zero k i n l e h q m =
    let r : (row at w v ++ flat_map (row at w) vs) ++ C ≡ row at w v ++ (flat_map (row at w) vs ++ C) = append_assoc (row at w v) (flat_map (row at w) vs) C in
    num_shift A _ (32 * k + i) i n (omega arith) ∙ ap (λ bs. num bs i n) r ∙ num_front (row at w v) _ i n (omega (arith, length_row at w v l))
num_row at w A a (v ∷ vs) C (suc j) k i n l e h q m =
    let r : A ++ ((row at w v ++ flat_map (row at w) vs) ++ C) ≡ (A ++ row at w v) ++ (flat_map (row at w) vs ++ C) = simp append_assoc in
    ap (λ bs. num bs (32 * k + i) n) r ∙ num_row at w (A ++ row at w v) (a + 1) vs C j k i n l (omega (arith, length-append A (row at w v), length_row at w v l)) (omega arith) (omega arith) m

-- what record k holds
pub record Holds (bs : List ℕ) (k : ℕ) (x : Item) (next : ℕ) : Type 0 where
  pub item : item_at bs k ≡ x
  pub link : next_at bs k ≡ next
  pub pad : pad_at bs k ≡ 0

pub holds_row : (bs r : List ℕ) (k : ℕ) (x : Item) (next : ℕ) → ((i n : ℕ) → i + n ≤ 32 → num bs (32 * k + i) n ≡ num r i n) → Holds r 0 x next → Holds bs k x next
holds_row bs r k x next h d =
    let a : num bs (32 * k) 8 ≡ num r 0 8 = ap (λ i. num bs i 8) (sym (add-zero (32 * k))) ∙ h 0 8 (omega arith) in
    let b = h 8 8 (omega arith) in
    let e = h 18 1 (omega arith) in
    let f = h 24 8 (omega arith) in
    let g : item_at bs k ≡ item_at r 0 = cc in
    record { item = g ∙ d.item; link = h 16 2 (omega arith) ∙ d.link; pad = h 19 5 (omega arith) ∙ d.pad }

pub holds_version : (v : ℕ) → v < 2 ^ 64 → Holds (row 24 8 v) 0 (fresh_item 0 0 v) 0
unfolding num
holds_version v l = record { item = ap (fresh_item 0 0) (num_digits 8 v l); link = refl; pad = refl }

pub holds_free : (v : ℕ) → v < 2 ^ 16 → Holds (row 16 2 v) 0 (fresh_item 0 0 0) v
unfolding num
holds_free v l = record { item = refl; link = num_digits 2 v l; pad = refl }
