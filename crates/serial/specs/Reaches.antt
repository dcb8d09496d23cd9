-- A register with its history.
use Rattle.std.specs.Prelude.{◌≡◌, ℕ, true, [], ◌∷◌, Option}
use Rattle.history.specs.Meaning.{Meaning}
use Rattle.register.specs.declared.register.Register.{Register}
use Rattle.ledger.specs.declared.call.Call.{Call}
use Rattle.ledger.specs.declared.call.Answer.{Answer}
use Rattle.register.specs.View.{view}
use Rattle.serial.specs.Histories.{History, Fit, Reached}
use Rattle.serial.specs.SerialOrder.{SerialOrder, found_at}

module _ {S V : Type 0} (means : S → Meaning) (form : V → ℕ) (parse : ℕ → Option V) where
  -- From a start at clock c over a store that meant m, the calls and answers of h led to the register.
  abbrev pub Reaches : ℕ → Meaning → History V → Register S V → Type 0
  Reaches c m h r = Reached form parse c m h (view means r)

  -- The register at first: it has no history, and is fit exactly where what it asks holds.
  pub record Opens (c : ℕ) (m : Meaning) (r : Register S V) : Type 0 where
    pub reaches : Reaches c m [] r
    pub fits : r.fit ≡ true → Fit c m
    pub is_fit : Fit c m → r.fit ≡ true

  -- A call adds itself with its answer to the history, and the register is in serial order with it.
  abbrev pub Continues : Register S V → Call V → Answer V → Register S V → Type 0
  Continues before call answer after =
      (c : ℕ) (m : Meaning) (h : History V) → Reaches c m h before
      → Reaches c m (record { call = call; answer = answer } ∷ h) after
      × SerialOrder form parse c (found_at m) (record { call = call; answer = answer } ∷ h) (view means after)
