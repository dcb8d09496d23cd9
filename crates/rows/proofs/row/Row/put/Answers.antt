use Rattle.std.proofs.Common.{rules, tests, ap, ◌∙◌}
use Rattle.std.specs.List.{insert}
use Rattle.history.specs.Chain.{fresh_item}
use Rattle.history.specs.Meaning.Op.{Put}
use Rattle.rows.specs.Rowed.{row_chain}
use Rattle.rows.proofs.Items.{put_at_position}
use Rattle.rows.proofs.Rowing.{passed, kept}
use Rattle.rows.proofs.row.Row.put.Goals as goal

pub invariant_of-self : goal.invariant_of-self
invariant_of-self c =
    let now = put_at_position (fresh_item c.args.time c.args.mark c.args.number) (row_chain c.args.self.now) (c.iter.ensures.rest ∙ c.deref.ensures.0) _ _ c.position-later.result c.position-later.ensures.ran (λ y b q k. search (rules, tests)) _ _ c.unwrap_or.ensures c.len.ensures.value in
    let k = kept c.args.self.now (Put c.args.time c.args.mark c.args.number) _ c.in_ok-may_put.ensures (c.insert.ensures.items ∙ ap (insert (row_chain c.args.self.now) c.unwrap_or.result) c.fresh-new.ensures ∙ now) in record { short = k.short; lawful = k.lawful }

pub returns : goal.returns
returns c =
    let now = put_at_position (fresh_item c.args.time c.args.mark c.args.number) (row_chain c.args.self.now) (c.iter.ensures.rest ∙ c.deref.ensures.0) _ _ c.position-later.result c.position-later.ensures.ran (λ y b q k. search (rules, tests)) _ _ c.unwrap_or.ensures c.len.ensures.value in
    (passed _ c.in_ok-may_put.ensures, c.insert.ensures.items ∙ ap (insert (row_chain c.args.self.now) c.unwrap_or.result) c.fresh-new.ensures ∙ now)
