-- The law of histories: an accepted operation leaves a history, and finds after it are told from finds before it.
use Rattle.std.specs.Prelude.{◌≡◌, ℕ, ◌-◌, cond, List, Some, None, Option, nat_le, nat_lt}
use Rattle.history.specs.declared.item.Item.{Item}
use Rattle.history.specs.Chain.{has_start, find_in, extends, seals, fresh_item, Lawful}
use Rattle.history.specs.Meaning.{Op, cause_in, applied}
use Rattle.history.specs.Meaning.Op.{Find, At, Extend, Put, Seal, Drop}

abbrev pub changed : (Item → Item) → Option Item → Option Item
changed f None = None
changed f (Some x) = Some (f x)

-- the item with the greater start
abbrev pub later : Item → Option Item → Option Item
later new None = Some new
later new (Some x) = Some (cond (nat_lt x.start new.start) new x)

-- another in place of an item that starts at s
abbrev pub in_place_of : ℕ → Option Item → Option Item → Option Item
in_place_of s other None = None
in_place_of s other (Some x) = cond (has_start s x) other (Some x)

-- what find answers at q after an operation
abbrev pub found_after : List Item → Op → ℕ → Option Item
found_after xs (Find p) q = find_in xs q
found_after xs At q = find_in xs q
found_after xs (Extend s p) q = changed (extends s p) (find_in xs q)
found_after xs (Put p mark n) q = cond (nat_le p q) (later (fresh_item p mark n) (find_in xs q)) (find_in xs q)
found_after xs (Seal s) q = changed (seals s) (find_in xs q)
found_after xs (Drop s) q = in_place_of s (find_in xs (s - 1)) (find_in xs q)

pub record Stands (xs : List Item) (op : Op) : Type 0 where
  pub lawful : Lawful (applied xs op)
  pub finds : (q : ℕ) → find_in (applied xs op) q ≡ found_after xs op q

abbrev pub HistoriesStand : Type 0
HistoriesStand = (xs : List Item) (room : ℕ) (op : Op) → Lawful xs → cause_in xs room op ≡ None → Stands xs op
