-- One line's turn on a register.
use Rattle.std.specs.Prelude.{◌≡◌, ℕ, List}
use Rattle.history.specs.Meaning.{Meaning}
use Rattle.kinds.specs.declared.seats.Seats.{Seats}
use Rattle.kinds.specs.Forms.{seats_parse}
use Rattle.ledger.specs.declared.call.Answer.{Answer}
use Rattle.register.specs.declared.register.Register.{Register}
use Rattle.register.specs.View.{view}
use Rattle.serial.specs.Histories.{History}
use Rattle.serial.specs.Reaches.{Reaches}
use Rattle.script.specs.Format.{call_of}
use Rattle.playing.specs.Played.{form, answer_to, noted, state_after, output, events, final}

module _ {S : Type 0} (means : S → Meaning) where
  -- a store means what its bytes mean
  abbrev pub InBytes : (List ℕ → Meaning) → Type 0
  InBytes meaning = (s : S) → means s ≡ meaning (means s).image

  -- a line answered on a register that a history reaches
  pub record Turn (meaning : List ℕ → Meaning) (c : ℕ) (m : Meaning) (h : History Seats) (before : Register S Seats) (line : List ℕ) (answer : Answer Seats) (after : Register S Seats) : Type 0 where
    pub answers : answer ≡ answer_to (view means before) (call_of line)
    pub leads : view means after ≡ state_after meaning (view means before) (call_of line)
    pub reaches : Reaches means form seats_parse c m (noted (view means before) (call_of line) h) after

  abbrev pub Takes : Register S Seats → List ℕ → Answer Seats → Register S Seats → Type 0
  Takes before line answer after =
      (meaning : List ℕ → Meaning) → InBytes meaning → (c : ℕ) (m : Meaning) (h : History Seats)
      → Reaches means form seats_parse c m h before → Turn meaning c m h before line answer after

  -- lines answered one after another, with what they print
  pub record Run (meaning : List ℕ → Meaning) (c : ℕ) (m : Meaning) (h : History Seats) (before : Register S Seats) (script : List (List ℕ)) (out : List ℕ) (after : Register S Seats) : Type 0 where
    pub prints : out ≡ output meaning (view means before) script
    pub leads : view means after ≡ final meaning (view means before) script
    pub reaches : Reaches means form seats_parse c m (events meaning h (view means before) script) after

  abbrev pub Runs : Register S Seats → List (List ℕ) → List ℕ → Register S Seats → Type 0
  Runs before script out after =
      (meaning : List ℕ → Meaning) → InBytes meaning → (c : ℕ) (m : Meaning) (h : History Seats)
      → Reaches means form seats_parse c m h before → Run meaning c m h before script out after
