use Rattle.std.proofs.Common.{⊎_elim, arith}
use Rattle.layout.proofs.Reading.{Read, read_some, read_none}
use Rattle.layout.proofs.Ticks.{passed_more, passed_all, passed_out}
use Rattle.layout.proofs.marks.mark_from.Goals as goal

pub returns-in_default : goal.returns-in_default
returns-in_default c =
    passed_out _ _ _ _ c.loop-k.seen c.loop-k.invariant c.loop-k-test.true
    (λ l. ⊎_elim (λ z. absurd (c.loop-k-test.true z)) (λ h. absurd (omega arith)) (read_none _ _ c.in_default.ensures))

pub returns-then-seen-from : goal.returns-then-seen-from
returns-then-seen-from c = passed_out _ _ _ _ c.loop-k.seen c.loop-k.invariant c.loop-k-test.true (λ _. cc c.if-seen-from.true)

pub loop-k-preserved : goal.loop-k-preserved
loop-k-preserved c =
    let r : Read c.args.bytes.now c.loop-k.k c.in-Some.record = read_some _ _ _ c.in-Some.ensures in
    rw c.from-in-loop-k.ensures (passed_more _ _ _ _ _ _ c.loop-k.invariant r.positive (omega arith) (omega arith) (cc c.if-seen-from.false) r.next)

pub returns : goal.returns
returns c = passed_all _ _ _ _ _ c.loop-k.invariant c.loop-k-test.false
