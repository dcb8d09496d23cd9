use Rattle.std.proofs.Common.{None, sym, ap, refl, rules, ◌∙◌}
use borrow.Author.Tests.{tests}
use Rattle.std.specs.List.{last_or}
use Rattle.std.specs.Option.{unwrap_or}
use Rattle.std.proofs.lemmas.List.{map-id}
use Rattle.std.proofs.lemmas.Iterator.{items_from_drains}
use Rattle.std.proofs.lemmas.Iterator.Consumers.{YieldsList-from_first, YieldsList-at}
use Rattle.std.proofs.lemmas.Iterator.Search.{YieldsList-from_take_while}
use Rattle.history.specs.Chain.{starts_by}
use Rattle.layout.specs.Layout.{item_at}
use Rattle.layout.specs.Walks.{left_of}
use Rattle.chained.proofs.Walks.{last_is}
use Rattle.chained.proofs.chain.last_by.Goals as goal

pub returns : goal.returns
returns c =
    let d = c.last.ensures.ran in
    let e =
    items_from_drains d.0 (d.1.1.0, d.1.1.1, λ _. (d.1.0, d.1.1.2))
    (YieldsList-from_take_while _ (λ k. starts_by c.args.time (item_at c.args.bytes.now k)) (YieldsList-at c.take_while.ensures.source (YieldsList-from_first (λ k. k) left_of {s = c.new.result} _ c.new.ensures)) c.take_while.ensures.closure c.take_while.ensures.done (λ x b q k. search (rules, tests))) in
    c.unwrap_or.ensures ∙ ap (λ o. unwrap_or o 0) (d.2 ∙ ap (last_or None) (sym (map-id d.0) ∙ e)) ∙ sym (last_is c.args.bytes.now c.args.time 0 _ None refl)
