-- What a row means, and what an operation on one gives.
use Rattle.std.specs.Prelude.{◌≡◌, ℕ, ◌-◌, List, length, Some, None, Ok, Err, Option, Result}
use Rattle.history.specs.declared.item.Item.{Item}
use Rattle.history.specs.declared.item.Cause.{Cause}
use Rattle.history.specs.Chain.{find_in}
use Rattle.history.specs.Meaning.{Op, cause_in, applied}
use Rattle.history.specs.Meaning.Op.{Find}
use Rattle.rows.specs.declared.row.Row.{Row}

abbrev pub row_chain : Row → List Item
row_chain r = r.items.items

abbrev pub row_room : Row → ℕ
row_room r = 8 - length (row_chain r)

-- the first cause that turns an operation on a row down
abbrev pub row_cause : Row → Op → Option Cause
row_cause r op = cause_in (row_chain r) (row_room r) op

abbrev pub verdict : Option Cause → Result (Unit {0}) Cause
verdict None = Ok tt
verdict (Some c) = Err c

abbrev pub row_verdict : Row → Op → Result (Unit {0}) Cause
row_verdict r op = verdict (row_cause r op)

-- the row after an operation, or the cause that turned it down and the row as it was
abbrev pub RowChanged : Row → Op → Result (Unit {0}) Cause → Row → Type 0
RowChanged was op (Ok done) now = (row_cause was op ≡ None) × (row_chain now ≡ applied (row_chain was) op)
RowChanged was op (Err c) now = (row_cause was op ≡ Some c) × (row_chain now ≡ row_chain was)

abbrev pub RowFound : Row → ℕ → Result Item Cause → Type 0
RowFound was p (Ok x) = (row_cause was (Find p) ≡ None) × (find_in (row_chain was) p ≡ Some x)
RowFound was p (Err c) = row_cause was (Find p) ≡ Some c
