-- What a store finds out before it changes a record.
use Rattle.std.specs.Prelude.{◌≡◌, ℕ, max, List, Some, None, Ok, Err, Result}
use Rattle.history.specs.declared.item.Cause.{Cause}
use Rattle.history.specs.declared.item.Fault.{Fault}
use Rattle.history.specs.Meaning.{Op, cause_of, bottom_fault}
use Rattle.chained.specs.declared.plans.Place.{Place}
use Rattle.chained.specs.declared.plans.Stretch.{Stretch}
use Rattle.chained.specs.declared.plans.Link.{Link}
use Rattle.layout.specs.Layout.{item_at}
use Rattle.chained.specs.Edits.{record_by}
use Rattle.chained.specs.Means.{meaning}

-- the cause that turns an operation down, or else P of what it needs
abbrev pub Planned : {A : Type 0} → List ℕ → ℕ → Op → (A → Type 0) → Result A Cause → Type 0
Planned bs o op P (Ok q) = (cause_of (meaning bs) o op ≡ None) × P q
Planned bs o op P (Err c) = cause_of (meaning bs) o op ≡ Some c

-- a plan for an object, with the fault of its cause
abbrev pub Told : {A : Type 0} → Result A Cause → ℕ → ℕ → Result A Fault → Type 0
Told (Ok q) o p r = r ≡ Ok q
Told (Err c) o p r = r ≡ Err (bottom_fault c o p)

-- the last record of an object's chain that starts at p or before, with its item
pub record IsPlace (bs : List ℕ) (o p : ℕ) (q : Place) : Type 0 where
  pub at : q.at ≡ record_by bs o p
  pub item : q.item ≡ item_at bs (record_by bs o p)

-- that record, and the end of its item raised to t
pub record IsStretch (bs : List ℕ) (o p t : ℕ) (q : Stretch) : Type 0 where
  pub at : q.at ≡ record_by bs o p
  pub «end» : q.«end» ≡ max (item_at bs (record_by bs o p)).«end» t

-- record x, and the record a that it follows in its chain
pub record IsLink (a x : ℕ) (q : Link) : Type 0 where
  pub previous : q.previous ≡ a
  pub at : q.at ≡ x
