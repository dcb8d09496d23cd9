use Rattle.std.proofs.Common.{◌≡◌, ◌+◌, drop}
use Rattle.layout.specs.Laid.{with_rows}
use Rattle.layout.proofs.laying.number.Given as goal

abbrev pub invariant-loop-o : goal.invariant-loop-o
invariant-loop-o l = with_rows 24 8 l.bytes (l.o + 1) (drop l.o l.numbers) ≡ with_rows 24 8 l.initial.bytes 1 l.numbers
