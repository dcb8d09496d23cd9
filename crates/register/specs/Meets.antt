-- What a search that settles tokens on its way answers and leaves.
use Rattle.std.specs.Prelude.{◌≡◌, ℕ, None, Ok, Err, Option, Result}
use Rattle.history.specs.declared.item.Item.{Item}
use Rattle.history.specs.Meaning.{Meaning, cause_of}
use Rattle.history.specs.Meaning.Op.{Extend}
use Rattle.ledger.specs.declared.call.Unread.{Unread}
use Rattle.ledger.specs.declared.call.Unread.TheVariants.{Wait, Refused}
use Rattle.register.specs.State.{State}
use Rattle.ledger.specs.Checks.{Ticket}
use Rattle.register.specs.Calls.{Met, meeting}
use Rattle.register.specs.Calls.Met.{waits, reads}
use Rattle.register.specs.Settling.{Leaves}

-- an item to read, or an open record to wait for, and no refusal
abbrev pub Shows : Result Item Unread → Met → Type 0
Shows (Ok x) met = reads x ≡ met
Shows (Err (Wait r)) met = waits r ≡ met
Shows (Err (Refused why)) met = ⊥

-- an item that is read can be extended to p
abbrev pub Extends : Meaning → ℕ → ℕ → Result Item Unread → Type 0
Extends m o p (Ok x) = cause_of m o (Extend x.start p) ≡ None
Extends m o p (Err why) = Unit {0}

pub record Meets (s : State) (own : Option Ticket) (o p : ℕ) (r : Result Item Unread) (t : State) : Type 0 where
  pub met : Shows r (meeting s own o p).met
  pub leaves : Leaves s o (meeting s own o p).chain (meeting s own o p).records (meeting s own o p).ops t
  pub extends : Extends t.store o p r
