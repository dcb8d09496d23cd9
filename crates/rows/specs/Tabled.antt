-- What the row store means.
use Rattle.std.specs.Prelude.{◌≡◌, ℕ, ◌-◌, ◌<◌, ◌≤◌, List, [], map, length, Ok, Err, Result, slice_index_or}
use Rattle.history.specs.declared.item.Item.{Item}
use Rattle.history.specs.declared.item.Cause.TheVariants.{NoObject}
use Rattle.history.specs.declared.item.Fault.{Fault}
use Rattle.history.specs.Meaning.{Meaning, bottom_fault}
use Rattle.rows.specs.Rowed.{row_chain}
use Rattle.rows.specs.declared.row.Row.{Row}
use Rattle.rows.specs.declared.table.Rows.{Rows}

abbrev pub chains_in : List Row → List (List Item)
chains_in rows = map row_chain rows

-- a room of 8 less its items for each chain, level 0, and no bytes of the caller's
abbrev pub meaning : List (List Item) → Meaning
meaning chains = record {
  chains = chains;
  room = λ o. 8 - length (slice_index_or chains o []);
  origin = λ c o. 0;
  image = [];
  writes = λ bs o op. bs;
}

abbrev pub rows_means : Rows → Meaning
rows_means s = meaning (chains_in s.rows)

-- where an object's row stands, or the fault of an object that is not there
abbrev pub RowIndex : ℕ → ℕ → Result ℕ Fault → Type 0
RowIndex o p (Ok k) = (o < 32) × (k ≡ o)
RowIndex o p (Err f) = (32 ≤ o) × (f ≡ bottom_fault NoObject o p)
