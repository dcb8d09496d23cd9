-- What a register means.
use Rattle.std.specs.Prelude.{ℕ, Option}
use Rattle.history.specs.Meaning.{Meaning}
use Rattle.ledger.specs.declared.call.Call.{Call}
use Rattle.ledger.specs.declared.call.Answer.{Answer}
use Rattle.register.specs.declared.register.Register.{Register}
use Rattle.register.specs.State.{State}
use Rattle.register.specs.Calls.{Outcome, Ends, Step}

abbrev pub view : {S V : Type 0} → (S → Meaning) → Register S V → State
view means r = record { fit = r.fit; store = means r.store; records = r.ledger.records; clocks = r.ledger.clocks }

-- an outcome met: by a register, its answer, and the register after it
abbrev pub Follows : {S V : Type 0} → (S → Meaning) → (State → Outcome V) → Register S V → Answer V → Register S V → Type 0
Follows means outcome before answer after = Ends (outcome (view means before)) (view means before) answer (view means after)

-- a call on a register: its answer, and the register after it
abbrev pub Does : {S V : Type 0} → (S → Meaning) → (V → ℕ) → (ℕ → Option V) → Register S V → Call V → Answer V → Register S V → Type 0
Does means form parse before call answer after = Step form parse (view means before) call answer (view means after)
