use Rattle.std.proofs.Common.{◌≡◌, ◌+◌, ◌-◌, map}
use Rattle.std.specs.List.{range_with_len}
use Rattle.layout.specs.Laid.{with_rows, after}
use Rattle.layout.proofs.laying.spare.Given as goal

abbrev pub invariant-loop-k : goal.invariant-loop-k
invariant-loop-k l =
    with_rows 16 2 l.bytes (l.k + 1) (map (after l.last) (range_with_len (l.k + 1) (l.last - l.k)))
    ≡ with_rows 16 2 l.initial.bytes (l.objects + 1) (map (after l.last) (range_with_len (l.objects + 1) (l.last - l.objects)))
