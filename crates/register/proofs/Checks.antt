-- Calls that a check turns down, and calls that change the ledger alone.
use Rattle.std.proofs.Common.{◌≡◌, ℕ, ◌%◌, List, Some, None, Option, Result, sym, refl, ap, ◌∙◌, subst, arith}
use Rattle.std.proofs.lemmas.Bool.{le-ltb}
use Rattle.ledger.specs.declared.refusal.Refusal.{Refusal}
use Rattle.ledger.specs.declared.refusal.Refusal.TheVariants.{OutOfRange}
use Rattle.ledger.specs.declared.record.CommitRecord.{CommitRecord}
use Rattle.ledger.specs.declared.call.Call.{Call}
use Rattle.ledger.specs.declared.call.Answer.{Answer}
use Rattle.ledger.specs.declared.call.Answer.TheVariants.{Refused}
use Rattle.ledger.specs.Checks.{Ticket, spent_check, ticket_check, action_check, glance_check}
use Rattle.ledger.specs.Answers.{told}
use Rattle.ledger.specs.Refusals.{first, when, checked, left}
use Rattle.ledger.specs.Time.{site_of}
use Rattle.ledger.proofs.Checks.{first_none}
use Rattle.register.specs.State.{State}
use Rattle.register.specs.Calls.{Step, outcome, Outcome, Ends, guarded, refused, fit_check}

pub guarded_some : {V : Type 0} (s : State) (k : Option Refusal) (done : Outcome V) (why : Refusal) → k ≡ Some why → guarded s k done ≡ refused s why
guarded_some s k done why e = ap (λ x. guarded s x done) e

pub guarded_none : {V : Type 0} (s : State) (k : Option Refusal) (done : Outcome V) → k ≡ None → guarded s k done ≡ done
guarded_none s k done e = ap (λ x. guarded s x done) e

-- an action's site has a timestamp left
pub site_ready : (records : List (Option CommitRecord)) (clocks : List ℕ) (t : Ticket) → action_check records clocks t ≡ None → glance_check clocks (site_of t.1) ≡ None
site_ready records clocks t e =
    let low = le-ltb 15 (t.1 % 16) (omega arith) in
    ap (λ b. first (when b OutOfRange) (spent_check clocks (site_of t.1))) low ∙ (first_none (ticket_check records clocks t) _ e).1

module _ {V : Type 0} (form : V → ℕ) (parse : ℕ → Option V) (s : State) (call : Call V) (k : Option Refusal) (done : Outcome V)
    (is : outcome form parse s call ≡ guarded s (first (fit_check s) k) done) where
  pub refused_by : (why : Refusal) → first (fit_check s) k ≡ Some why → Step form parse s call (Refused why) s
  refused_by why e =
      subst (λ out. Ends out s (Refused why) s) (sym (is ∙ guarded_some s _ done why e)) (record { answers = refl; leaves = refl; keeps_fit = refl; keeps_writes = refl })

  pub unfit_step : (why : Refusal) → fit_check s ≡ Some why → Step form parse s call (Refused why) s
  unfit_step why e = refused_by why (ap (λ f. first f k) e)

  pub turned_down : (why : Refusal) → fit_check s ≡ None → k ≡ Some why → Step form parse s call (Refused why) s
  turned_down why e h = refused_by why (ap (λ f. first f k) e ∙ h)

  pub step_of : (t : State) (a : Answer V) → fit_check s ≡ None → Ends (guarded s k done) s a t → Step form parse s call a t
  step_of t a e h =
      subst (λ out. Ends out s a t) (sym (is ∙ ap (λ f. guarded s (first f k) done) e)) h

  pub passed_step : (t : State) (a : Answer V) → fit_check s ≡ None → k ≡ None → Ends done s a t → Step form parse s call a t
  passed_step t a e h x = step_of t a e (subst (λ out. Ends out s a t) (sym (guarded_none s k done h)) x)

pub left_same : {A : Type 0} (k : Option Refusal) (a : A) → left k a a ≡ a
left_same None a = refl
left_same (Some why) a = refl

-- a call that changes the ledger alone
module _ {A V : Type 0} (s t : State) (good : A → Answer V) (a : A) (records : List (Option CommitRecord)) (clocks : List ℕ) where
  abbrev ends : Option Refusal → Result A Refusal → Type 0
  ends k r =
      t.store ≡ s.store → t.records ≡ left k records s.records → t.clocks ≡ left k clocks s.clocks → t.fit ≡ s.fit
      → Ends (guarded s k (record { answer = good a; after = record { chains = s.store.chains; image = s.store.image; records = records; clocks = clocks } })) s (told Refused good r) t

  pub ledger_ends : (k : Option Refusal) (r : Result A Refusal) → r ≡ checked k a → ends k r
  ledger_ends None r e same rs cs fit =
      record { answers = ap (told Refused good) e; leaves = (let x = ap (λ m. m.chains) same in let y = ap (λ m. m.image) same in cc); keeps_fit = fit; keeps_writes = ap (λ m. m.writes) same }
  ledger_ends (Some why) r e same rs cs fit =
      record { answers = ap (told Refused good) e; leaves = (let x = ap (λ m. m.chains) same in let y = ap (λ m. m.image) same in cc); keeps_fit = fit; keeps_writes = ap (λ m. m.writes) same }
