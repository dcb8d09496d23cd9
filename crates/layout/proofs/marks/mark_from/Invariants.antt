use Rattle.layout.proofs.Ticks.{Passed, unmarked}
use Rattle.layout.proofs.marks.mark_from.Given as goal

abbrev pub invariant-loop-k : goal.invariant-loop-k
invariant-loop-k l = Passed l.bytes l.from l.k l.initial.seen l.seen

abbrev pub decreases-loop-k : goal.decreases-loop-k
decreases-loop-k l = unmarked l.seen
