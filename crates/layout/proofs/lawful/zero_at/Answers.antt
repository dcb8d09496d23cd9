use Rattle.std.proofs.Common.{◌+◌, eqb, get_or, ◌∙◌, rules, refl, arith}
use borrow.Author.Tests.{tests}
use Rattle.std.proofs.lemmas.Iterator.{YieldsList-from_range}
use Rattle.std.proofs.lemmas.Iterator.Search.{all_from_yields_List}
use Rattle.layout.proofs.Fields.{all_zero}
use Rattle.layout.proofs.lawful.zero_at.Goals as goal

pub returns : goal.returns
returns c =
    all_from_yields_List (λ i. eqb (get_or c.args.bytes.now (c.args.at + i) 0) 0) _ _ _ c.all.ensures.ran (YieldsList-from_range 0 c.args.count c.args.count refl (omega arith)) (λ x b q k. search (rules, tests))
    ∙ all_zero c.args.bytes.now c.args.at c.args.count
