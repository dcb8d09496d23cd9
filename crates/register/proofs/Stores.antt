-- An update, which ends with one operation of the store.
use Rattle.std.proofs.Common.{◌≡◌, ℕ, cond, Some, None, Ok, Err, Option, sym, refl, ap, ◌∙◌, arith}
use Rattle.history.specs.declared.item.Fault.{Fault}
use Rattle.history.specs.declared.item.Cause.{Cause}
use Rattle.history.specs.Meaning.{Meaning, Op, Outcome, answered, answer_by, cause_of, chains_by, fault_of, image_by}
use Rattle.history.specs.Meaning.Op.{Put}
use Rattle.history.proofs.Outcomes.{ok_accepted}
use Rattle.ledger.specs.declared.record.Event.TheVariants.{Abort}
use Rattle.ledger.specs.declared.call.Call.{Call}
use Rattle.ledger.specs.declared.call.Call.TheVariants.{Update}
use Rattle.ledger.specs.declared.refusal.Refusal.{Refusal}
use Rattle.ledger.specs.declared.call.Answer.{Answer}
use Rattle.ledger.specs.declared.call.Answer.TheVariants.{Refused, Done}
use Rattle.ledger.specs.Time.{site_of}
use Rattle.register.specs.State.{State, contents}
use Rattle.ledger.specs.Checks.{Ticket, ticket_check, action_check, time_of}
use Rattle.register.specs.Calls.{Step, outcome, update_by, fit_check, Outcome as CallOutcome}
use Rattle.ledger.specs.Refusals.{refusal_of, aborts, first, left}
use Rattle.ledger.specs.Records.{change_record, concluded, one_token_more, take_stamp}
use Rattle.ledger.proofs.Checks.{first_none, left_none}
use Rattle.register.proofs.Checks.{guarded_none}

-- the cause of a refused operation
pub err_caused : {A : Type 0} (m : Meaning) (o : ℕ) (op : Op) (a : A) (f : Fault) → Err f ≡ answered m o op a → (c : Cause) × (cause_of m o op ≡ Some c) × (f ≡ fault_of m o op c)
err_caused m o op a f = go (cause_of m o op)
  where
    go : (k : Option Cause) → Err f ≡ answer_by m o op a k → (c : Cause) × (k ≡ Some c) × (f ≡ fault_of m o op c)
    go None h = let z : ◌≡◌ {A = ℕ} 0 1 = cc in absurd (omega arith)
    go (Some c) h = (c, refl, cc)

step_by : {V : Type 0} (form : V → ℕ) (parse : ℕ → Option V) (s t : State) (call : Call V) (a : Answer V) (out : CallOutcome V)
    → outcome form parse s call ≡ out → a ≡ out.answer → contents t ≡ out.after → t.fit ≡ s.fit → t.store.writes ≡ s.store.writes → Step form parse s call a t
step_by form parse s t call a out e p q h w =
    record { answers = p ∙ sym (ap (λ o. o.answer) e); leaves = q ∙ sym (ap (λ o. o.after) e); keeps_fit = h; keeps_writes = w }

module _ {V : Type 0} (form : V → ℕ) (parse : ℕ → Option V) (s : State) (t : Ticket) (o : ℕ) (v : V) where
  abbrev check : Option Refusal
  check = action_check s.records s.clocks t

  abbrev put : Op
  put = Put (time_of s.clocks t.1) t.0 (form v)

  module _ (after : State) (fits : fit_check s ≡ None) (passed : check ≡ None) (h : Outcome s.store o put after.store) (fit : after.fit ≡ s.fit) where
    updated : (k : Option Cause) → cause_of s.store o put ≡ k → outcome form parse s (Update t o v) ≡ update_by form s t o v (time_of s.clocks t.1) put k
    updated k e =
        guarded_none s (first (fit_check s) check) _ (ap (λ f. first f check) fits ∙ passed) ∙ ap (update_by form s t o v (time_of s.clocks t.1) put) e

    pub update_refused : (f : Fault) (why : Refusal) → Err f ≡ answered {A = Unit {0}} s.store o put tt → why ≡ refusal_of f
        → after.records ≡ cond (aborts why) (left (ticket_check s.records s.clocks t) (change_record (concluded Abort) s.records t.0) s.records) s.records
        → after.clocks ≡ s.clocks → Step form parse s (Update t o v) (Refused why) after
    update_refused f why err w turned clocks =
        let q = err_caused s.store o put tt f err in
        let chains = h.chains ∙ ap (chains_by s.store o put) q.1 in
        let image = h.image ∙ ap (image_by s.store o put) q.1 in
        let told = q.2 in
        let records : after.records ≡ cond (aborts why) (change_record (concluded Abort) s.records t.0) s.records =
        turned ∙ ap (λ y. cond (aborts why) y s.records) (left_none (ticket_check s.records s.clocks t) _ _ (first_none (ticket_check s.records s.clocks t) _ passed).0) in
        step_by form parse s after (Update t o v) (Refused why) _ (updated (Some q.0) q.1) (cc) (cc) fit h.writes

    pub update_done : Ok tt ≡ answered {A = Unit {0}} s.store o put tt
        → after.records ≡ left check (change_record one_token_more s.records t.0) s.records
        → after.clocks ≡ left check (take_stamp s.clocks (site_of t.1)) s.clocks → Step form parse s (Update t o v) Done after
    update_done ok counted stamped =
        let none = ok_accepted s.store o put tt tt ok in
        let chains = h.chains ∙ ap (chains_by s.store o put) none in
        let image = h.image ∙ ap (image_by s.store o put) none in
        let records = counted ∙ left_none check _ _ passed in
        let clocks = stamped ∙ left_none check _ _ passed in
        step_by form parse s after (Update t o v) Done _ (updated None none) refl (cc) fit h.writes
