-- Chains of records as lists of their numbers.
use Rattle.std.proofs.Common.{◌≡◌, ℕ, zero, suc, ◌<◌, ◌≤◌, true, false, ◌&&◌, eqb, leb, List, [], ◌∷◌, ◌++◌, length, sym, refl, ap, ◌∙◌, subst, ⊎_elim, arith}
use Rattle.std.proofs.lemmas.Bool.{cases_Bool, eqb-true, eqb-false, leb-true, le-leb, eq-eqb, ne_eqb, and_parts}
use Rattle.layout.proofs.Totals.{Within}
use Rattle.layout.specs.Layout.{next_at, walk, ends, path, whole, records_in}

-- the records ns, of the first m, are those that a walk from `from` passes before it comes to k
abbrev pub Trail : List ℕ → ℕ → ℕ → List ℕ → ℕ → Type 0
Trail bs m from [] k = from ≡ k
Trail bs m from (x ∷ xs) k = (from ≡ x) × (0 < from) × (from ≤ m) × Trail bs m (next_at bs from) xs k

-- the records ns are the chain that begins at k
abbrev pub Run : List ℕ → ℕ → ℕ → List ℕ → Type 0
Run bs m k ns = Trail bs m k ns 0

pub trail_more : (bs : List ℕ) (m from : ℕ) (ns : List ℕ) (k : ℕ) → Trail bs m from ns k → 0 < k → k ≤ m → Trail bs m from (ns ++ (k ∷ [])) (next_at bs k)
trail_more bs m from [] k t p l = (t, omega arith, omega arith, ap (next_at bs) t)
trail_more bs m from (x ∷ xs) k t p l = (t.0, t.1, t.2, trail_more bs m (next_at bs from) xs k t.3 p l)

-- a chain goes on as the walk through it does
pub trail_rest : (bs : List ℕ) (m from : ℕ) (ns : List ℕ) (k : ℕ) (ms : List ℕ) → Trail bs m from ns k → Run bs m from ms → (rest : List ℕ) × (ms ≡ ns ++ rest) × Run bs m k rest
trail_rest bs m from [] k ms t r = (ms, refl, subst (λ i. Run bs m i ms) t r)
trail_rest bs m from (x ∷ xs) k [] t r = absurd (omega arith)
trail_rest bs m from (x ∷ xs) k (y ∷ ys) t r =
    let q = trail_rest bs m (next_at bs from) xs k ys t.3 r.3 in
    (q.0, ap (λ i. i ∷ ys) (sym r.0 ∙ t.0) ∙ ap (λ is. x ∷ is) q.1, q.2)

pub trail_within : (bs : List ℕ) (m from : ℕ) (ns : List ℕ) (k : ℕ) → Trail bs m from ns k → Within m ns
trail_within bs m from [] k t = tt
trail_within bs m from (x ∷ xs) k t = ((omega arith, omega arith), trail_within bs m (next_at bs from) xs k t.3)

pub run_ends : (bs : List ℕ) (m f k : ℕ) → ends bs m f k ≡ true → Run bs m k (walk bs f k)
run_ends bs m zero k h = eqb-true k 0 h
run_ends bs m (suc f) k h =
    ⊎_elim
    (λ t. rw t (eqb-true k 0 t))
    (λ t.
    let p : (leb k m && ends bs m f (next_at bs k)) ≡ true = rw t at h in
    let q : (leb k m ≡ true) × (ends bs m f (next_at bs k) ≡ true) = and_parts (leb k m) (ends bs m f (next_at bs k)) p in
    let z : k ≡ 0 → ⊥ = eqb-false k 0 t in
    let l : k ≤ m = leb-true k m q.0 in
    let p' : 0 < k = omega (arith, z) in
    rw t (refl, p', l, run_ends bs m f (next_at bs k) q.1))
    (cases_Bool (eqb k 0))

pub length_walk : (bs : List ℕ) (f k : ℕ) → length (walk bs f k) ≤ f
length_walk bs zero k = omega arith
length_walk bs (suc f) k =
    ⊎_elim (λ t. rw t (omega arith)) (λ t. rw t (omega (arith, length_walk bs f (next_at bs k)))) (cases_Bool (eqb k 0))

pub walk_run : (bs : List ℕ) (m f k : ℕ) (ns : List ℕ) → Run bs m k ns → length ns ≤ f → (walk bs f k ≡ ns) × (ends bs m f k ≡ true)
walk_run bs m zero k [] r l = (refl, eq-eqb k 0 r)
walk_run bs m zero k (x ∷ xs) r l = absurd (omega arith)
walk_run bs m (suc f) k [] r l = let t : eqb k 0 ≡ true = eq-eqb k 0 r in (rw t refl, rw t refl)
walk_run bs m (suc f) k (x ∷ xs) r l =
    let t : eqb k 0 ≡ false = ne_eqb k 0 (λ e. omega arith) in
    let w : (walk bs f (next_at bs k) ≡ xs) × (ends bs m f (next_at bs k) ≡ true) = walk_run bs m f (next_at bs k) xs r.3 (omega arith) in
    let b : leb k m ≡ true = le-leb k m r.2 in
    (rw t (ap (λ ys. k ∷ ys) w.0 ∙ ap (λ y. y ∷ xs) r.0), rw (t, b) w.1)

-- one step along a chain that ends
pub step_path : (bs : List ℕ) (k : ℕ) → whole bs k ≡ true → 0 < k → (path bs k ≡ k ∷ path bs (next_at bs k)) × (whole bs (next_at bs k) ≡ true) × (k ≤ records_in bs)
step_path bs k h p = at (records_in bs) (walk bs (records_in bs) k) (run_ends bs (records_in bs) (records_in bs) k h) refl (length_walk bs (records_in bs) k)
  where
    at : (m : ℕ) (ns : List ℕ) → Run bs m k ns → walk bs m k ≡ ns → length ns ≤ m → (walk bs m k ≡ k ∷ walk bs m (next_at bs k)) × (ends bs m m (next_at bs k) ≡ true) × (k ≤ m)
    at m [] r e l = absurd (omega arith)
    at m (x ∷ xs) r e l =
        let w : (walk bs m (next_at bs k) ≡ xs) × (ends bs m m (next_at bs k) ≡ true) = walk_run bs m m (next_at bs k) xs r.3 (omega arith) in
        (e ∙ sym (ap (λ ys. k ∷ ys) w.0 ∙ ap (λ y. y ∷ xs) r.0), w.1, r.2)

pub end_path : (bs : List ℕ) (k : ℕ) → k ≡ 0 → path bs k ≡ []
end_path bs k e = (walk_run bs (records_in bs) (records_in bs) k [] e (omega arith)).0
