use Rattle.std.proofs.Common.{arith}
use Rattle.layout.proofs.Ticks.{ticked_more, twice_free, twice_at}
use Rattle.layout.proofs.marks.mark_all.Goals as goal

pub returns-then-not-mark_from : goal.returns-then-not-mark_from
returns-then-not-mark_from c = twice_free _ _ _ c.mark_from.new.seen c.free_in.ensures c.requires.clear c.if-not-mark_from.ensures

pub returns-then-not-mark_from-2 : goal.returns-then-not-mark_from-2
returns-then-not-mark_from-2 c = twice_at _ _ _ c.mark_from-in-loop-o.new.seen c.loop-o.invariant.1 (omega arith) c.if-not-mark_from-2.ensures

pub loop-o-preserved : goal.loop-o-preserved
loop-o-preserved c = (omega (arith, c.mark_from-in-loop-o.auto.seen), ticked_more _ _ _ _ c.loop-o.invariant.1 c.if-not-mark_from-2.ensures)
