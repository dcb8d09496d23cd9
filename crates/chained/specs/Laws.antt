-- The law of the bytes: what an accepted operation writes is lawful again, and spells the changed histories.
use Rattle.std.specs.Prelude.{◌≡◌, ℕ, ◌+◌, ◌-◌, ◌^◌, ◌<◌, true, List, None, slice_set}
use Rattle.history.specs.Meaning.{Op, applied, cause_of, chain_of}
use Rattle.history.specs.Meaning.Op.{Find, At, Extend, Put, Seal, Drop}
use Rattle.layout.specs.Layout.{objects_in, lawful}
use Rattle.chained.specs.Edits.{chained_writes}
use Rattle.chained.specs.Means.{meaning}

-- a number that is put fits eight bytes
abbrev pub Fitting : Op → Type 0
Fitting (Find p) = Unit {0}
Fitting At = Unit {0}
Fitting (Extend s p) = Unit {0}
Fitting (Put p mark n) = n < 2 ^ 64
Fitting (Seal s) = Unit {0}
Fitting (Drop s) = Unit {0}

-- the free records after an operation
abbrev pub room_after : Op → ℕ → ℕ
room_after (Find p) r = r
room_after At r = r
room_after (Extend s p) r = r
room_after (Put p mark n) r = r - 1
room_after (Seal s) r = r
room_after (Drop s) r = r + 1

-- cs spells what an operation on an object makes of the histories in bs
pub record Spells (bs : List ℕ) (o : ℕ) (op : Op) (cs : List ℕ) : Type 0 where
  pub lawful : lawful cs ≡ true
  pub objects : objects_in cs ≡ objects_in bs
  pub chains : (meaning cs).chains ≡ slice_set (meaning bs).chains o (applied (chain_of (meaning bs) o) op)
  pub rooms : (k : ℕ) → (meaning cs).room k ≡ room_after op ((meaning bs).room k)

abbrev pub WritesStand : Type 0
WritesStand = (bs : List ℕ) (o : ℕ) (op : Op) → lawful bs ≡ true → cause_of (meaning bs) o op ≡ None → Fitting op → Spells bs o op (chained_writes bs o op)
