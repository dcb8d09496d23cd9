-- A script played on a register: what it prints, the calls that it makes, and the state that it leads to.
use Rattle.std.specs.Prelude.{◌≡◌, ℕ, List, [], ◌∷◌, ◌++◌, Some, None, Option}
use Rattle.history.specs.Meaning.{Meaning}
use Rattle.kinds.specs.declared.seats.Seats.{Seats}
use Rattle.kinds.specs.Forms.{seats_form, seats_parse}
use Rattle.ledger.specs.declared.call.Call.{Call}
use Rattle.ledger.specs.declared.call.Answer.{Answer}
use Rattle.ledger.specs.declared.call.Answer.TheVariants.{Refused}
use Rattle.ledger.specs.declared.refusal.Refusal.TheVariants.{Unreadable}
use Rattle.register.specs.State.{State, Contents}
use Rattle.register.specs.Start.{started}
use Rattle.register.specs.Calls.{Outcome, outcome}
use Rattle.serial.specs.Histories.{History}
use Rattle.serial.specs.SerialOrder.{SerialOrder, found_at}
use Rattle.script.specs.Format.{call_of}
use Rattle.script.specs.Lines.{lines}
use Rattle.script.specs.Printed.{shown, printed}

abbrev pub form : Seats → ℕ
form v = seats_form v.value

-- what a call on seats comes to
abbrev pub done : State → Call Seats → Outcome Seats
done s c = outcome form seats_parse s c

-- the answer to a line, by the call that it spells: none is made where it spells none
abbrev pub answer_to : State → Option (Call Seats) → Answer Seats
answer_to s None = Refused Unreadable
answer_to s (Some c) = (done s c).answer

-- the calls so far with their answers, the newest first
abbrev pub noted : State → Option (Call Seats) → History Seats → History Seats
noted s None h = h
noted s (Some c) h = record { call = c; answer = (done s c).answer } ∷ h

-- `meaning` is what the store means by its bytes, which hold all that it means
module _ (meaning : List ℕ → Meaning) where
  abbrev pub with_contents : State → Contents → State
  with_contents s t = record { fit = s.fit; store = meaning t.image; records = t.records; clocks = t.clocks }

  abbrev pub state_after : State → Option (Call Seats) → State
  state_after s None = s
  state_after s (Some c) = with_contents s (done s c).after

  -- what lines print, one after another
  abbrev pub output : State → List (List ℕ) → List ℕ
  output s [] = []
  output s (line ∷ more) = printed (answer_to s (call_of line)) ++ output (state_after s (call_of line)) more

  -- the answers that they get, a line each
  abbrev pub answers : State → List (List ℕ) → List (List ℕ)
  answers s [] = []
  answers s (line ∷ more) = shown (answer_to s (call_of line)) ∷ answers (state_after s (call_of line)) more

  -- the calls that they make, behind those of h
  abbrev pub events : History Seats → State → List (List ℕ) → History Seats
  events h s [] = h
  events h s (line ∷ more) = events (noted s (call_of line) h) (state_after s (call_of line)) more

  -- the state that they lead to
  abbrev pub final : State → List (List ℕ) → State
  final s [] = s
  final s (line ∷ more) = final (state_after s (call_of line)) more

  -- a script from a register's start over a store that means m, with first clock c: what it prints, in a line
  -- for each of its lines, and that the calls it makes are in serial order
  pub record Played (c : ℕ) (m : Meaning) (script out : List ℕ) : Type 0 where
    pub prints : out ≡ output (started m c) (lines script)
    pub line_for_line : lines out ≡ answers (started m c) (lines script)
    pub serial : SerialOrder form seats_parse c (found_at m) (events [] (started m c) (lines script)) (final (started m c) (lines script))
