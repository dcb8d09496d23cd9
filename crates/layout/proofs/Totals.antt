-- Lists in which each of the numbers 1 to m occurs once have m elements together.
use Rattle.std.proofs.Common.{◌≡◌, ℕ, zero, suc, ◌+◌, ◌<◌, ◌≤◌, cond, eqb, leb, List, [], ◌∷◌, length, sum_by, refl, ◌∙◌, arith}
use Rattle.std.specs.List.{AllByRecursion}
use Rattle.std.proofs.lemmas.List.Sums.{sum_by-cons}
use Rattle.std.proofs.lemmas.Bool.Decides.{nat_tests}
use Rattle.std.proofs.lemmas.Bool.{le-leb, cond-true}
use Rattle.layout.specs.Layout.{times}

abbrev pub total : ℕ → (ℕ → ℕ) → ℕ
total zero f = 0
total (suc m) f = total m f + f m

pub total_same : (m : ℕ) (f g : ℕ → ℕ) → ((k : ℕ) → k < m → f k ≡ g k) → total m f ≡ total m g
total_same zero f g h = refl
total_same (suc m) f g h =
    let a : total m f ≡ total m g = total_same m f g (λ k l. h k (omega arith)) in
    let b : f m ≡ g m = h m (omega arith) in
    omega arith

pub total_plus : (m : ℕ) (f g : ℕ → ℕ) → total m (λ k. f k + g k) ≡ total m f + total m g
total_plus zero f g = refl
total_plus (suc m) f g = omega (arith, total_plus m f g)

pub total_ones : (m : ℕ) → total m (λ _. 1) ≡ m
total_ones zero = refl
total_ones (suc m) = omega (arith, total_ones m)

pub total_none : (m : ℕ) → total m (λ _. 0) ≡ 0
total_none zero = refl
total_none (suc m) = omega (arith, total_none m)

-- a number occurs once among 1 to m, if it is one of them
total_one : (m x : ℕ) → 0 < x → total m (λ k. cond (eqb (k + 1) x) 1 0) ≡ cond (leb x m) 1 0
total_one zero x p = grind (arith, nat_tests)
total_one (suc m) x p = let q = total_one m x p in grind (arith, nat_tests)

abbrev pub Within : ℕ → List ℕ → Type 0
Within m ns = AllByRecursion (λ x. (0 < x) × (x ≤ m)) ns

pub times_cons : (k x : ℕ) (xs : List ℕ) → times k (x ∷ xs) ≡ cond (eqb k x) 1 0 + times k xs
times_cons k x xs = sum_by-cons (λ y. cond (eqb k y) 1 0) x xs

pub total_times : (m : ℕ) (ns : List ℕ) → Within m ns → total m (λ k. times (k + 1) ns) ≡ length ns
total_times m [] w = total_none m
total_times m (x ∷ xs) w =
    let a : total m (λ k. times (k + 1) (x ∷ xs)) ≡ total m (λ k. cond (eqb (k + 1) x) 1 0 + times (k + 1) xs) =
    total_same m _ _ (λ k l. times_cons (k + 1) x xs) in
    let b : total m (λ k. cond (eqb (k + 1) x) 1 0) ≡ 1 = total_one m x w.0.0 ∙ cond-true (leb x m) 1 0 (le-leb x m w.0.1) in
    let c : total m (λ k. times (k + 1) xs) ≡ length xs = total_times m xs w.1 in
    omega (arith, total_plus m (λ k. cond (eqb (k + 1) x) 1 0) (λ k. times (k + 1) xs))

pub total_all : (m : ℕ) (css : List (List ℕ)) → AllByRecursion (Within m) css → total m (λ k. sum_by (times (k + 1)) css) ≡ sum_by length css
total_all m [] w = total_none m
total_all m (ns ∷ css) w =
    let a : total m (λ k. sum_by (times (k + 1)) (ns ∷ css)) ≡ total m (λ k. times (k + 1) ns + sum_by (times (k + 1)) css) =
    total_same m _ _ (λ k l. sum_by-cons (times (k + 1)) ns css) in
    let b : total m (λ k. times (k + 1) ns) ≡ length ns = total_times m ns w.0 in
    let c : total m (λ k. sum_by (times (k + 1)) css) ≡ sum_by length css = total_all m css w.1 in
    omega (arith, total_plus m (λ k. times (k + 1) ns) (λ k. sum_by (times (k + 1)) css), sum_by-cons length ns css)

pub total_below : (m : ℕ) (f : ℕ → ℕ) → ((k : ℕ) → f k ≤ 1) → total m f ≤ m
total_below zero f h = omega arith
total_below (suc m) f h = omega (arith, total_below m f h, h m)
