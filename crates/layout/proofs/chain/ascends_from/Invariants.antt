use Rattle.std.proofs.Common.{◌≡◌, map}
use Rattle.layout.specs.Layout.{item_at, items, ascends}
use Rattle.layout.specs.Walks.{left_of}
use Rattle.layout.proofs.Ascending.{climbs}
use Rattle.layout.proofs.chain.ascends_from.Given as goal

abbrev pub invariant-loop-k : goal.invariant-loop-k
invariant-loop-k l = record {
  can : (goal.iterator-loop-k).can_next l.k-iterator;
  ends : (goal.iterator-loop-k).is_finite l.k-iterator;
  climbs : climbs l.low (map (item_at l.bytes) (left_of l.k-iterator)) ≡ ascends (items l.bytes l.from);
}
