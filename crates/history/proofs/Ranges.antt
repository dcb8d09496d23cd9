-- What `all` over a range from 0 tells of the numbers in it.
use Rattle.std.proofs.Common.{◌≡◌, ℕ, ◌<◌, Bool, true, false, List, length, get_or, Option, sym, subst, arith}
use Rattle.std.proofs.iter.Yields.{nat_range_steps}
use Rattle.std.proofs.lemmas.Iterator.{cases_from_all, YieldsList-from_range}
use Rattle.std.proofs.lemmas.List.FromFn.{length-range_with_len, get_or-range_with_len}
use Rattle.std.specs.Bool.{MatchBool}
use Rattle.std.specs.Fn.{Called}
use Rattle.std.specs.Iterator.{YieldsThen}
use Rattle.std.specs.List.{range_with_len, FoldsTo, AllWithin, HoldsAt}
use Rattle.std.specs.Option.{MatchOption}
use Rattle.std.specs.declared.ops.Range.{Range}
use denote.Param.Members.{Mut}

module _ (Yes No : ℕ → Type 0) (n : ℕ) where
  at_from : (k : ℕ) → k < n → get_or (range_with_len 0 n) k 0 ≡ k
  at_from k l = let e = get_or-range_with_len 0 n k 0 l in omega (arith, e)

  by_number : (r : Bool)
      → MatchBool r (AllWithin Yes (range_with_len 0 n) 0 (length (range_with_len 0 n))) ((k : ℕ) × (k < length (range_with_len 0 n)) × HoldsAt No (range_with_len 0 n) k)
      → MatchBool r ((k : ℕ) → k < n → Yes k) ((k : ℕ) × (k < n) × No k)
  by_number true h = λ k l. subst Yes (at_from k l) (h k 0 (omega arith) (subst (λ m. k < m) (sym (length-range_with_len 0 n)) l))
  by_number false h =
      let l = subst (λ m. h.0 < m) (length-range_with_len 0 n) h.1 in
      (h.0, l, subst No (at_from h.0 l) (h.2 0))

  pub all_in_range : {F : Type 0} {g : Mut F (ℕ × Unit {0}) Bool} {s : Range ℕ} (u : Range ℕ) (f : F) (r : Bool)
      → s ≡ record { start = 0; «end» = n }
      → (xs : List ℕ) × (o : Option ℕ) × (j : F) × YieldsThen nat_range_steps s xs o u × FoldsTo (λ p x q. Called g p (x, tt) true q) f xs j × MatchOption o (r ≡ true) (λ x. (r ≡ false) × ((h : F) × Called g j (x, tt) false h))
      → ((k : ℕ) (q : F) → Called g f (k, tt) true q → (q ≡ f) × Yes k)
      → ((k : ℕ) (q : F) → Called g f (k, tt) false q → No k)
      → MatchBool r ((k : ℕ) → k < n → Yes k) ((k : ℕ) × (k < n) × No k)
  all_in_range u f r e ran holds fails =
      by_number r (cases_from_all u f r Yes No ran (YieldsList-from_range 0 n n e (omega arith)) holds fails)
