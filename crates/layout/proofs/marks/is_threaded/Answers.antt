use Rattle.std.proofs.Common.{rules, arith}
use borrow.Author.Tests.{tests}
use Rattle.std.proofs.lemmas.Iterator.{YieldsList-from_slice}
use Rattle.std.proofs.lemmas.Iterator.Search.{all_from_yields_List}
use Rattle.layout.proofs.Parts.{header_parts}
use Rattle.layout.proofs.Ticks.{tick_none, marks_decide}
use Rattle.layout.proofs.marks.is_threaded.Goals as goal

pub mark_all-requires-clause-clear : goal.mark_all-requires-clause-clear
mark_all-requires-clause-clear c = tick_none 2048

pub returns-then-mark_all : goal.returns-then-mark_all
returns-then-mark_all c =
    marks_decide c.args.bytes.now c.mark_all.new.seen _ _ c.if-mark_all.ensures (omega (arith, c.from-records.ensures, c.records_in.ensures)) (omega (arith, (header_parts _ c.requires).size.most, c.mark_all.auto.seen))
    (all_from_yields_List (λ b. b) _ _ _ c.all.ensures.ran (YieldsList-from_slice _ c.iter.ensures.rest) (λ x b q k. search (rules, tests)))
