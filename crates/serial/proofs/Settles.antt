-- Settle keeps the invariant
use Rattle.std.proofs.Common.{◌≡◌, ℕ, ◌<◌, Bool, leb, List, [], ◌∷◌, ◌++◌, length, None, sym, refl, ap, subst, inl, inr, append_assoc, arith, leb-false, Option}
use Rattle.history.specs.declared.item.Item.{Item}
use Rattle.ledger.specs.declared.record.Standing.TheVariants.{Open, Committed, Aborted}
use Rattle.ledger.specs.declared.record.CommitRecord.{CommitRecord}
use Rattle.ledger.specs.declared.call.Call.TheVariants.{Settle}
use Rattle.register.specs.State.{State, contents}
use Rattle.register.specs.Calls.{Settling, settle_chain, settle_step, settle_by, settle}
use Rattle.history.specs.Members.{here, there}
use Rattle.serial.specs.Histories.{Access, deed}
use Rattle.serial.proofs.Invariant.{Setting}
use Rattle.serial.proofs.Good.{seen, GoodAt, After, unless, by_option, by_fate}
use Rattle.serial.proofs.Updates.{either_none}
use lib.Seq.{set-get_or}
use Rattle.std.proofs.lemmas.Bool.{cond_both}
use Rattle.history.specs.declared.item.Cause.TheVariants.{NoObject as NoObjectCause}
use Rattle.history.specs.Chain.{is_version, seal_item}
use Rattle.history.specs.Meaning.{Sound, chain_of, objects_of, cause_of}
use Rattle.history.specs.Meaning.Op.{At}
use Rattle.ledger.specs.Records.{fate, lower_for}
use Rattle.register.specs.Settling.{settled_records}
use Rattle.history.proofs.Lists.{split_in, in_right, in_left, of_append}
use Rattle.history.proofs.Chains.{Sorted, lawful_sorted, sorted_pre, sorted_post, sorted_drop, sorted_swap}
use Rattle.serial.proofs.Tokens.{Spot, spot, Now, tidy, Tidied}

after_one : (pre xs : List Item) (x : Item) → (pre ++ (x ∷ [])) ++ xs ≡ pre ++ (x ∷ xs)
after_one pre xs x = append_assoc pre (x ∷ []) xs

module _ {V : Type 0} (σ : Setting V) where
  open σ use {form, parse, c, n, initial, last}

  module _ (τ : Spot V) where
    open τ use {clock, acc, done, chains, clocks, o, lo}

    seal_mid : (pre xs : List Item) (rs : List (Option CommitRecord)) (x : Item) → Sorted (pre ++ (x ∷ xs)) → fate rs clocks x ≡ Committed
        → Tidied σ τ (pre ++ (x ∷ xs)) (pre ++ (seal_item x ∷ xs)) rs x
    seal_mid pre xs rs x s e = record {
      back = λ y i. elim (of_append pre (seal_item x ∷ xs) y i) [
        | inl j ↦ (y, in_left pre (x ∷ xs) y j, refl, refl, inl (refl, (λ q. let k = sorted_pre pre xs x y s j in omega arith)))
        | inr j ↦ elim (split_in j) [
          | inl p ↦ (x, in_right pre here, ap (λ (z : Item). z.start) p, ap (λ (z : Item). z.number) p, inr (ap (λ (z : Item). z.mark) p, refl, e))
          | inr l ↦ (y, in_right pre (there l), refl, refl, inl (refl, (λ q. let k = sorted_post pre xs x y s l in omega arith)))
        ]
      ];
      fore = λ y i. elim (of_append pre (x ∷ xs) y i) [
        | inl j ↦ inl (y, in_left pre (seal_item x ∷ xs) y j, refl, refl, omega arith)
        | inr j ↦ elim (split_in j) [
          | inl p ↦ inl (seal_item x, in_right pre here, ap (λ (z : Item). z.start) (sym p), ap (λ (z : Item). z.number) (sym p), (let q : y.«end» ≡ x.«end» = ap (λ (z : Item). z.«end») p in omega arith))
          | inr l ↦ inl (y, in_right pre (there l), refl, refl, omega arith)
        ]
      ];
    }

    drop_mid : (pre xs : List Item) (rs : List (Option CommitRecord)) (x : Item) → Sorted (pre ++ (x ∷ xs)) → fate rs clocks x ≡ Aborted
        → Tidied σ τ (pre ++ (x ∷ xs)) (pre ++ xs) rs x
    drop_mid pre xs rs x s e = record {
      back = λ y i. elim (of_append pre xs y i) [
        | inl j ↦ (y, in_left pre (x ∷ xs) y j, refl, refl, inl (refl, (λ q. let k = sorted_pre pre xs x y s j in omega arith)))
        | inr l ↦ (y, in_right pre (there l), refl, refl, inl (refl, (λ q. let k = sorted_post pre xs x y s l in omega arith)))
      ];
      fore = λ y i. elim (of_append pre (x ∷ xs) y i) [
        | inl j ↦ inl (y, in_left pre xs y j, refl, refl, omega arith)
        | inr j ↦ elim (split_in j) [
          | inl p ↦ inr (ap (λ (z : Item). z.start) p, e)
          | inr l ↦ inl (y, in_right pre l, refl, refl, omega arith)
        ]
      ];
    }

    abbrev Whole : List Item → Settling → Type 0
    Whole pre w = Now σ τ (pre ++ w.chain) w.records

    settle_keeps : (pre xs : List Item) (rs : List (Option CommitRecord)) → Sorted (pre ++ xs) → Now σ τ (pre ++ xs) rs → Whole pre (settle_chain clocks rs xs)
    settle_keeps pre [] rs s good = good
    settle_keeps pre (x ∷ xs) rs s good =
        let keep : Whole pre (settle_step x Open (settle_chain clocks rs xs)) =
        subst (λ l. Now σ τ l (settle_chain clocks rs xs).records) (after_one pre (settle_chain clocks rs xs).chain x)
        (settle_keeps (pre ++ (x ∷ [])) xs rs (subst Sorted (sym (after_one pre xs x)) s) (subst (λ l. Now σ τ l rs) (sym (after_one pre xs x)) good)) in
        cond_both (is_version x) Open (fate rs clocks x) (λ w. Whole pre (settle_step x w (settle_chain clocks (settled_records w rs x) xs)))
        (λ _. keep)
        (λ nv. by_fate (fate rs clocks x) (λ w. settle_step x w (settle_chain clocks (settled_records w rs x) xs)) (Whole pre)
        (λ _. keep)
        (λ e.
        let g = tidy σ τ (pre ++ (x ∷ xs)) (pre ++ (seal_item x ∷ xs)) rs x good (in_right pre here) nv (seal_mid pre xs rs x s e) in
        let s' = sorted_swap pre xs x (seal_item x) refl s in
        subst (λ l. Now σ τ l (settle_chain clocks (lower_for rs x) xs).records) (after_one pre (settle_chain clocks (lower_for rs x) xs).chain (seal_item x))
        (settle_keeps (pre ++ (seal_item x ∷ [])) xs (lower_for rs x) (subst Sorted (sym (after_one pre xs (seal_item x))) s') (subst (λ l. Now σ τ l (lower_for rs x)) (sym (after_one pre xs (seal_item x))) g)))
        (λ e.
        let g = tidy σ τ (pre ++ (x ∷ xs)) (pre ++ xs) rs x good (in_right pre here) nv (drop_mid pre xs rs x s e) in
        settle_keeps pre xs (lower_for rs x) (sorted_drop pre xs x s) g))

  module _ (clock : ℕ → ℕ) (acc : List (Access V)) (done : ℕ → Bool) (s : State) (sound : Sound s.store) (good : GoodAt σ clock acc done (seen (contents s))) where
    -- to start with, the chain as it stands
    pub now_first : (o : ℕ) (lo : o < length s.store.chains) → Now σ (spot clock acc done s o lo) (chain_of s.store o) s.records
    now_first o lo = subst (λ l. GoodAt σ clock acc done (record { chains = l; records = s.records; clocks = s.clocks })) (sym (set-get_or s.store.chains o [])) good

    pub chain_sorted : (o : ℕ) (lo : o < length s.store.chains) → Sorted (chain_of s.store o)
    chain_sorted o lo = lawful_sorted (chain_of s.store o) (sound.lawful o lo)

    known : (o : ℕ) → cause_of s.store o At ≡ None → o < length s.store.chains
    known o e = leb-false (objects_of s.store) o (either_none (leb (objects_of s.store) o) NoObjectCause None e).0

    pub settle_good : (o : ℕ) → After σ clock acc done (deed {V = V} (Settle o) (settle s o).answer) (seen (settle {V = V} s o).after)
    settle_good o = unless _ s _ (λ out. After σ clock acc done (deed {V = V} (Settle o) out.answer) (seen out.after))
        (λ why. good)
        (λ _. by_option (cause_of s.store o At) (settle_by s o) (λ out. After σ clock acc done (deed {V = V} (Settle o) out.answer) (seen out.after))
        (λ e. let lo = known o e in settle_keeps (spot clock acc done s o lo) [] (chain_of s.store o) s.records (chain_sorted o lo) (now_first o lo))
        (λ x _. good))
