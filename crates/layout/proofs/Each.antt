-- A test of each number below n.
use Rattle.std.proofs.Common.{◌≡◌, ℕ, zero, suc, ◌+◌, ◌<◌, ◌≤◌, Bool, true, false, refl, ap, ◌∙◌, ⊎_elim, arith}
use Rattle.std.specs.List.{range_with_len, list_all}
use Rattle.std.proofs.lemmas.Bool.{cases_eq, and_parts, and_from}
use Rattle.layout.specs.Layout.{each_below}

pub false_from : (b : Bool) → (b ≡ true → ⊥) → b ≡ false
false_from true h = absurd (h refl)
false_from false h = refl

among : (a n : ℕ) (t : ℕ → Bool) → list_all t (range_with_len a n) ≡ true → (k : ℕ) → a ≤ k → k < a + n → t k ≡ true
among a zero t h k l m = absurd (omega arith)
among a (suc n) t h k l m =
    let p : (t a ≡ true) × (list_all t (range_with_len (a + 1) n) ≡ true) = and_parts _ _ h in
    ⊎_elim (λ e. ap t e ∙ p.0) (λ e. among (a + 1) n t p.1 k (omega arith) (omega arith)) (cases_eq k a)

among_from : (a n : ℕ) (t : ℕ → Bool) → ((k : ℕ) → k < a + n → t k ≡ true) → list_all t (range_with_len a n) ≡ true
among_from a zero t h = refl
among_from a (suc n) t h = and_from _ _ (h a (omega arith)) (among_from (a + 1) n t (λ k l. h k (omega arith)))

pub below : (n : ℕ) (t : ℕ → Bool) → each_below n t ≡ true → (k : ℕ) → k < n → t k ≡ true
below n t h k l = among 0 n t h k (omega arith) (omega arith)

pub below_from : (n : ℕ) (t : ℕ → Bool) → ((k : ℕ) → k < n → t k ≡ true) → each_below n t ≡ true
below_from n t h = among_from 0 n t (λ k l. h k (omega arith))

pub each_more : (n : ℕ) (t : ℕ → Bool) → each_below n t ≡ true → t n ≡ true → each_below (n + 1) t ≡ true
each_more n t h g = below_from (n + 1) t (λ k l. ⊎_elim (λ e. ap t e ∙ g) (λ e. below n t h k (omega arith)) (cases_eq k n))
