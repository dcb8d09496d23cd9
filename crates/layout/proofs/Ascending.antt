-- Items along a walk, one after the other.
use Rattle.std.proofs.Common.{ℕ, Bool, true, ◌&&◌, leb, List, [], ◌∷◌}
use Rattle.history.specs.declared.item.Item.{Item}
use Rattle.layout.specs.Layout.{ascends}

-- the first item starts at `low` at the earliest, and the items ascend
abbrev pub climbs : ℕ → List Item → Bool
climbs low [] = true
climbs low (x ∷ xs) = leb low x.start && ascends (x ∷ xs)
