use Rattle.std.proofs.Common.{◌≡◌, length}
use Rattle.layout.proofs.Ticks.{Ticked}
use Rattle.layout.proofs.marks.mark_all.Given as goal

abbrev pub invariant-loop-o : goal.invariant-loop-o
invariant-loop-o l = (length l.seen ≡ 2048) × Ticked l.bytes l.o l.seen
