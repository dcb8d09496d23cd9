-- What a record that was read tells, and one that was not found.
use Rattle.std.proofs.Common.{◌≡◌, ℕ, ◌+◌, ◌*◌, ◌<◌, ◌≤◌, ltb, leb, ◌⊎◌, List, length, Some, None, ◌∙◌, inl, inr, ⊎_elim, arith}
use Rattle.std.proofs.lemmas.Bool.{cases_Bool, and_parts, and_cases, ltb-true, ltb-false, leb-true, leb-false, cond-true, cond-false}
use Rattle.layout.specs.declared.record.Record.{Record}
use Rattle.layout.specs.Layout.{item_at, next_at, has_record, record_in}

pub record Read (bs : List ℕ) (k : ℕ) (r : Record) : Type 0 where
  pub positive : 0 < k
  pub within : 32 * k + 32 ≤ length bs
  pub item : r.item ≡ item_at bs k
  pub next : r.next ≡ next_at bs k

pub read_some : (bs : List ℕ) (k : ℕ) (r : Record) → Some r ≡ record_in bs k → Read bs k r
read_some bs k r h =
    ⊎_elim
    (λ t.
    let e : Some r ≡ Some (record { item = item_at bs k; next = next_at bs k }) = h ∙ cond-true (has_record bs k) _ _ t in
    let p = and_parts (ltb 0 k) (leb (32 * k + 32) (length bs)) t in
    record { positive = ltb-true _ _ p.0; within = leb-true _ _ p.1; item = cc; next = cc })
    (λ t.
    let e : Some r ≡ None = h ∙ cond-false (has_record bs k) _ _ t in
    let z : ◌≡◌ {A = ℕ} 0 1 = cc in absurd (omega arith))
    (cases_Bool (has_record bs k))

pub read_none : (bs : List ℕ) (k : ℕ) → None ≡ record_in bs k → (k ≡ 0) ⊎ (length bs < 32 * k + 32)
read_none bs k h =
    ⊎_elim
    (λ t.
    let e : None ≡ Some (record { item = item_at bs k; next = next_at bs k }) = h ∙ cond-true (has_record bs k) _ _ t in
    let z : ◌≡◌ {A = ℕ} 0 1 = cc in absurd (omega arith))
    (λ t. ⊎_elim (λ f. inl (omega (arith, ltb-false _ _ f))) (λ f. inr (leb-false _ _ f)) (and_cases (ltb 0 k) (leb (32 * k + 32) (length bs)) t))
    (cases_Bool (has_record bs k))
