-- One item settled.
use Rattle.std.proofs.Common.{◌≡◌, ℕ, Bool, true, false, cond, None, Err, sym, refl, ap, ◌∙◌, subst}
use Rattle.std.proofs.lemmas.Bool.{both_ways}
use Rattle.history.specs.declared.item.Fault.{Fault}
use Rattle.history.specs.declared.item.Item.{Item}
use Rattle.history.specs.Chain.{is_version}
use Rattle.history.specs.Meaning.{Meaning, Op, Outcome, answered, answer_by, cause_of}
use Rattle.history.specs.Meaning.Op.{Seal, Drop}
use Rattle.history.proofs.Outcomes.{ok_not_err}
use Rattle.ledger.specs.declared.record.Standing.{Standing}
use Rattle.ledger.specs.declared.record.Standing.TheVariants.{Open, Committed, Aborted}
use Rattle.ledger.specs.Checks.{record_check}
use Rattle.ledger.specs.Records.{fate, is_open, item_fate, lower_for}
use Rattle.ledger.specs.Refusals.{left}
use Rattle.ledger.proofs.Checks.{left_none}
use Rattle.register.specs.State.{State}
use Rattle.register.specs.Settling.{Held, Settles}
use Rattle.register.proofs.Leaves.{leaves_none, leaves_one}

-- an operation that nothing turns down is not refused
pub not_refused : {A : Type 0} (m : Meaning) (o : ℕ) (op : Op) (a : A) (f : Fault) → cause_of m o op ≡ None → Err f ≡ answered m o op a → ⊥
not_refused m o op a f none e = ok_not_err a f (sym (e ∙ ap (answer_by m o op a) none))

-- what is settled is a token
pub is_token : (s : State) (x : Item) (f : Standing) → f ≡ item_fate s.records s.clocks x → is_open f ≡ false → is_version x ≡ false
is_token s x f e closed = go (is_version x) (sym (ap is_open e) ∙ closed)
  where
    go : (b : Bool) → is_open (cond b Open (fate s.records s.clocks x)) ≡ false → b ≡ false
    go true h = absurd (both_ways true h refl)
    go false h = refl

pub settles_open : (s : State) (o : ℕ) (x : Item) (f : Standing) → f ≡ Open → f ≡ item_fate s.records s.clocks x → Settles s o x f s
settles_open s o x f is e = subst (λ w. Settles s o x w s) (sym is) (record { fate_is = sym is ∙ e; leaves = leaves_none s o })

module _ (s t : State) (o : ℕ) (x : Item) (held : is_version x ≡ false → Held s.store o x)
    (records : t.records ≡ left (record_check x.mark) (lower_for s.records x) s.records) (clocks : t.clocks ≡ s.clocks) (fit : t.fit ≡ s.fit) where
  lowered : is_version x ≡ false → t.records ≡ lower_for s.records x
  lowered v = records ∙ left_none (record_check x.mark) _ _ (held v).recorded

  pub settles_seal : (f : Standing) → f ≡ Committed → f ≡ item_fate s.records s.clocks x → Outcome s.store o (Seal x.start) t.store → Settles s o x f t
  settles_seal f is e h =
      let v = is_token s x Committed (sym is ∙ e) refl in
      subst (λ w. Settles s o x w t) (sym is) (record { fate_is = sym is ∙ e; leaves = leaves_one s t o (Seal x.start) _ (held v).seals h refl (lowered v) clocks fit })

  pub settles_drop : (f : Standing) → f ≡ Aborted → f ≡ item_fate s.records s.clocks x → Outcome s.store o (Drop x.start) t.store → Settles s o x f t
  settles_drop f is e h =
      let v = is_token s x Aborted (sym is ∙ e) refl in
      subst (λ w. Settles s o x w t) (sym is) (record { fate_is = sym is ∙ e; leaves = leaves_one s t o (Drop x.start) _ (held v).drops h refl (lowered v) clocks fit })
