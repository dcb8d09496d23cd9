-- What bytes that are laid out anew represent.
use Rattle.std.proofs.Common.{◌≡◌, ℕ, zero, suc, ◌+◌, ◌-◌, ◌*◌, ◌^◌, ◌<◌, ◌≤◌, true, cond, ◌&&◌, ltb, leb, List, [], ◌∷◌, ◌++◌, map, length, get_or, sum_by, sym, refl, ap, ◌∙◌, subst, ⊎_elim, zero-add, arith}
use Rattle.std.specs.List.{range_with_len, flat_map, AllByRecursion}
use Rattle.std.proofs.lemmas.List.{ext_get_or, length-map, get_or-map, append_assoc, append-nil, length-append}
use Rattle.std.proofs.lemmas.List.Sums.{sum_by-cons}
use Rattle.std.proofs.lemmas.List.FromFn.{length-map-range_with_len, get_or-map-range_with_len}
use Rattle.std.proofs.lemmas.Bool.Decides.{nat_tests}
use Rattle.std.proofs.lemmas.Bool.{cases_lt, eqb-true, eq-eqb, le-leb, lt-ltb, le-ltb, and_parts, and_from, cond-true, cond-false}
use Rattle.history.specs.Chain.{fresh_item}
use Rattle.layout.specs.Field.{num}
use Rattle.layout.specs.Layout.{objects_in, records_in, free_in, item_at, pad_at, times, vacant, blank, history, sized, header}
use Rattle.layout.specs.Laid.{fits, after, head, row, zeros, laid_out, with_rows, Laid}
use Rattle.layout.proofs.Fields.{num_digits}
use Rattle.layout.proofs.Parts.{Sized, sized_parts}
use Rattle.layout.proofs.Runs.{Run}
use Rattle.layout.proofs.Totals.{times_cons}
use Rattle.layout.proofs.Rows.{rows_laid, length_rows, num_row, Holds, holds_row, holds_version, holds_free}
use Rattle.layout.proofs.Represents.{Represents, Same, same}

-- n objects and m records fit `size` bytes, with `count` numbers
pub record Fit (n m size count : ℕ) : Type 0 where
  pub sized : Sized n m size
  pub given : count ≡ n

pub fit : (n m size count : ℕ) → fits n m size count ≡ true → Fit n m size count
fit n m size count h = let a = and_parts _ _ h in record { sized = sized_parts _ _ _ a.0; given = eqb-true _ _ a.1 }

-- how often a number is among those from a on
times_counting : (a d y : ℕ) → times y (range_with_len a d) ≡ cond (leb a y && ltb y (a + d)) 1 0
times_counting a zero y = grind (arith, nat_tests)
times_counting a (suc d) y =
    let p = times_cons y a (range_with_len (a + 1) d) in
    let q = times_counting (a + 1) d y in
    grind (arith, nat_tests)

-- chains of one record each
abbrev pub singles : ℕ → ℕ → List (List ℕ)
singles a d = map (λ o. (o + 1) ∷ []) (range_with_len a d)

times_singles : (a d y : ℕ) → sum_by (times y) (singles a d) ≡ times y (range_with_len (a + 1) d)
times_singles a zero y = refl
times_singles a (suc d) y =
    omega (arith, sum_by-cons (times y) ((a + 1) ∷ []) (singles (a + 1) d), times_singles (a + 1) d y, times_cons y (a + 1) (range_with_len (a + 1 + 1) d), times_cons y (a + 1) [], none)
  where
    none : times y [] ≡ 0
    none = refl

once : (n m y : ℕ) → n ≤ m → 0 < y → y ≤ m → times y (range_with_len (n + 1) (m - n)) + sum_by (times y) (singles 0 n) ≡ 1
once n m y w p l =
    let a = times_singles 0 n y in
    let b = times_counting (0 + 1) n y in
    let c = times_counting (n + 1) (m - n) y in
    grind (arith, nat_tests)

-- the writes, one after the other
pub written : (n m long : ℕ) (numbers b0 b1 bs : List ℕ) → Fit n m long (length numbers) → b0 ≡ head n m ++ zeros (long - 32) → b1 ≡ with_rows 24 8 b0 1 numbers → bs ≡ with_rows 16 2 b1 (n + 1) (map (after m) (range_with_len (n + 1) (m - n))) → bs ≡ laid_out n m numbers
unfolding laid_out
written n m long numbers b0 b1 bs f p q r =
    let front : List ℕ = head n m ++ flat_map (row 24 8) numbers in
    let links : List ℕ = map (after m) (range_with_len (n + 1) (m - n)) in
    let a : b1 ≡ front ++ zeros (32 * (m - n)) =
    q ∙ ap (λ xs. with_rows 24 8 xs 1 numbers) p ∙ rows_laid 24 8 (head n m) 1 numbers (long - 32) (32 * (m - n)) (omega arith) refl (omega (arith, f.sized.long, f.given, f.sized.fit))
    ∙ sym (append_assoc (head n m) (flat_map (row 24 8) numbers) (zeros (32 * (m - n)))) in
    r ∙ ap (λ xs. with_rows 16 2 xs (n + 1) links) a
    ∙ rows_laid 16 2 front (n + 1) links (32 * (m - n)) 0 (omega arith) (omega (arith, length-append (head n m) (flat_map (row 24 8) numbers), length_rows 24 8 numbers (omega arith), f.given)) (omega (arith, length-map-range_with_len (after m) (n + 1) (m - n)))
    ∙ ap (λ xs. front ++ xs) (append-nil (flat_map (row 16 2) links))
    ∙ append_assoc (head n m) (flat_map (row 24 8) numbers) (flat_map (row 16 2) links)

module _ (n m : ℕ) (numbers : List ℕ) (f : Fit n m (32 * (m + 1)) (length numbers)) (small : (i : ℕ) → get_or numbers i 0 < 2 ^ 64) where
  bs : List ℕ
  bs = laid_out n m numbers

  after_low : (k : ℕ) → after m k < 2 ^ 16
  after_low k = let w = f.sized.most in grind (arith, nat_tests)

  length_bs : length bs ≡ 32 * (m + 1)
  unfolding laid_out bs
  length_bs =
      omega (arith, length-append (flat_map (row 24 8) numbers) (flat_map (row 16 2) (map (after m) (range_with_len (n + 1) (m - n)))), length_rows 24 8 numbers (omega arith), length_rows 16 2 (map (after m) (range_with_len (n + 1) (m - n))) (omega arith), length-map-range_with_len (after m) (n + 1) (m - n), f.given, f.sized.fit)

  is_sized : sized n m (32 * (m + 1)) ≡ true
  is_sized =
      and_from _ _
      (and_from _ _ (and_from _ _ (and_from _ _ (le-leb 1 n f.sized.some) (le-leb n 128 f.sized.few)) (le-leb n m f.sized.fit)) (le-leb m 2047 f.sized.most))
      (eq-eqb _ _ f.sized.long)

  magic_is : num bs 0 4 ≡ 0x50544831
  unfolding laid_out num bs
  magic_is = refl

  objects : objects_in bs ≡ n
  unfolding laid_out num bs
  objects = num_digits 2 n (omega (arith, f.sized.few))

  records : records_in bs ≡ m
  unfolding laid_out num bs
  records = num_digits 2 m (omega (arith, f.sized.most))

  first : free_in bs ≡ after m n
  unfolding laid_out num bs
  first = num_digits 2 (after m n) (after_low n)

  rest : num bs 10 22 ≡ 0
  unfolding laid_out num bs
  rest = refl

  version : (o : ℕ) → o < n → Holds bs (o + 1) (fresh_item 0 0 (get_or numbers o 0)) 0
  unfolding laid_out bs
  version o l =
      holds_row bs _ (o + 1) _ 0 (λ i w h. num_row 24 8 (head n m) 1 numbers _ o (o + 1) i w (omega arith) refl (omega (arith, f.given)) (omega arith) h) (holds_version (get_or numbers o 0) (small o))

  free : (k : ℕ) → n < k → k ≤ m → Holds bs k (fresh_item 0 0 0) (after m k)
  unfolding laid_out bs
  free k l h =
      holds_row bs _ k _ _
      (λ i w q.
      ap (λ xs. num xs (32 * k + i) w) split
      ∙ num_row 16 2 (head n m ++ flat_map (row 24 8) numbers) (n + 1) links [] (k - (n + 1)) k i w (omega arith) (omega (arith, length-append (head n m) (flat_map (row 24 8) numbers), length_rows 24 8 numbers (omega arith), f.given)) (omega (arith, length-map-range_with_len (after m) (n + 1) (m - n))) (omega arith) q
      ∙ ap (λ v. num (row 16 2 v) i w) (get_or-map-range_with_len (after m) (n + 1) (m - n) (k - (n + 1)) k 0 (omega arith) (omega arith)))
      (holds_free (after m k) (after_low k))
    where
      links : List ℕ
      links = map (after m) (range_with_len (n + 1) (m - n))

      split : head n m ++ (flat_map (row 24 8) numbers ++ flat_map (row 16 2) links) ≡ (head n m ++ flat_map (row 24 8) numbers) ++ (flat_map (row 16 2) links ++ [])
      split = ap (λ xs. head n m ++ (flat_map (row 24 8) numbers ++ xs)) (sym (append-nil (flat_map (row 16 2) links))) ∙ sym (append_assoc (head n m) (flat_map (row 24 8) numbers) (flat_map (row 16 2) links ++ []))

  -- the free chain from record k on
  run_free : (k t : ℕ) → n ≤ k → k + t ≡ m → Run bs m (after m k) (range_with_len (k + 1) t)
  run_free k zero l e = cond-false (ltb k m) (k + 1) 0 (le-ltb k m (omega arith))
  run_free k (suc t) l e =
      let a : after m k ≡ k + 1 = cond-true (ltb k m) (k + 1) 0 (lt-ltb k m (omega arith)) in
      let h = free (k + 1) (omega arith) (omega arith) in
      subst (λ i. Run bs m i (range_with_len (k + 1) (suc t))) (sym a)
      (refl, omega arith, omega arith, subst (λ i. Run bs m i (range_with_len (k + 1 + 1) t)) (sym h.link) (run_free (k + 1) t (omega arith) (omega arith)))

  blanks : (a t : ℕ) → n < a → a + t ≤ m + 1 → AllByRecursion (λ k. blank bs k ≡ true) (range_with_len a t)
  blanks a zero l h = tt
  blanks a (suc t) l h = (ap vacant (free a l (omega arith)).item, blanks (a + 1) t (omega arith) (omega arith))

  single : (o : ℕ) → o < n → get_or (singles 0 n) o [] ≡ (o + 1) ∷ []
  single o l = get_or-map-range_with_len (λ i. (i + 1) ∷ []) 0 n o o [] l (zero-add o)

  head_fits : header bs ≡ true
  head_fits =
      and_from _ _ (and_from _ _ (eq-eqb _ _ magic_is) (rw (objects, records, length_bs) is_sized)) (eq-eqb _ _ rest)

  pads : (k : ℕ) → k < m → pad_at bs (k + 1) ≡ 0
  pads k l = ⊎_elim (λ h. (version k h).pad) (λ h. (free (k + 1) (omega arith) (omega arith)).pad) (cases_lt k n)

  represents : Represents bs (singles 0 n) (range_with_len (n + 1) (m - n))
  represents =
      record {
        header = head_fits;
        count = length-map-range_with_len (λ o. (o + 1) ∷ []) 0 n ∙ sym objects;
        pads = λ k l. pads k (omega (arith, records));
        runs = λ o l.
            let b : o < n = omega (arith, objects) in
            subst (Run bs (records_in bs) (o + 1)) (sym (single o b)) (refl, omega arith, omega (arith, records, f.sized.fit), (version o b).link);
        spare = subst (λ i. Run bs i (free_in bs) (range_with_len (n + 1) (m - n))) (sym records) (subst (λ i. Run bs m i (range_with_len (n + 1) (m - n))) (sym first) (run_free n (m - n) (omega arith) (omega (arith, f.sized.fit))));
        once = λ k l. once n m (k + 1) f.sized.fit (omega arith) (omega (arith, records));
        blanks = blanks (n + 1) (m - n) (omega arith) (omega (arith, f.sized.fit));
        rules = λ o l.
            let b : o < n = omega (arith, objects) in
            ap (λ ns. history (map (item_at bs) ns)) (single o b) ∙ ap (λ x. history (x ∷ [])) (version o b).item;
      }

  pub laid : Laid n m numbers (laid_out n m numbers)
  unfolding bs
  laid =
      let s : Same bs (singles 0 n) (range_with_len (n + 1) (m - n)) = same bs (singles 0 n) (range_with_len (n + 1) (m - n)) represents in
      let l = length-map-range_with_len (λ o. (o + 1) ∷ []) 0 n in
      record {
        lawful = s.lawful;
        objects = objects;
        records = records;
        chains =
            ap (map (map (item_at bs))) s.paths
            ∙ ext_get_or [] (map (map (item_at bs)) (singles 0 n)) (map (λ v. fresh_item 0 0 v ∷ []) numbers)
            (length-map (singles 0 n) (map (item_at bs)) ∙ l ∙ sym (length-map numbers (λ v. fresh_item 0 0 v ∷ []) ∙ f.given))
            (λ o h.
            let b : o < n = omega (arith, length-map (singles 0 n) (map (item_at bs))) in
            get_or-map (map (item_at bs)) (singles 0 n) o [] [] (omega arith)
            ∙ ap (map (item_at bs)) (single o b)
            ∙ ap (λ x. x ∷ []) (version o b).item
            ∙ sym (get_or-map (λ v. fresh_item 0 0 v ∷ []) numbers o 0 [] (omega (arith, f.given))));
        free = s.spare;
      }
