use Rattle.std.proofs.Common.{rules}
use borrow.Author.Tests.{tests}
use Rattle.std.proofs.lemmas.Iterator.Search.{all_from_yields_List}
use Rattle.std.proofs.lemmas.Iterator.Consumers.{YieldsList-from_first}
use Rattle.layout.specs.Layout.{blank}
use Rattle.layout.specs.Walks.{left_of}
use Rattle.layout.proofs.chain.blanks_from.Goals as goal

pub returns : goal.returns
returns c =
    all_from_yields_List (blank c.args.bytes.now) c.all.new.self _ _ c.all.ensures.ran (YieldsList-from_first (λ k. k) left_of {s = c.new.result} _ c.new.ensures) (λ x b q k. search (rules, tests))
