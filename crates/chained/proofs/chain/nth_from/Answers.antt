use Rattle.std.proofs.Common.{◌∙◌}
use Rattle.std.proofs.lemmas.Iterator.Consumers.{nth_from_yields_List, YieldsList-from_first}
use Rattle.layout.specs.Walks.{left_of}
use Rattle.chained.proofs.Walks.{nth_some, nth_none}
use Rattle.chained.proofs.chain.nth_from.Goals as goal

pub returns-in_err-k : goal.returns-in_err-k
returns-in_err-k c =
    c.from_residual.ensures
    ∙ nth_none c.args.bytes.now _ c.args.place c.nth.result (nth_from_yields_List _ c.nth.new.self _ c.nth.ensures.ran (YieldsList-from_first (λ k. k) left_of {s = c.new.result} _ c.new.ensures)) c.in_err-k.was

pub returns : goal.returns
returns c =
    nth_some c.args.bytes.now _ c.args.place c.nth.result (nth_from_yields_List _ c.nth.new.self _ c.nth.ensures.ran (YieldsList-from_first (λ k. k) left_of {s = c.new.result} _ c.new.ensures)) c.in_ok-k.k _ c.in_ok-k.was c.item_at.ensures
