use Rattle.std.proofs.Common.{rules, tests, ◌∙◌}
use Rattle.history.specs.Chain.{has_start}
use Rattle.rows.specs.Rowed.{row_chain}
use Rattle.rows.proofs.Items.{some_from_any}
use Rattle.rows.proofs.row.Row.has_start.Goals as goal

pub returns : goal.returns
returns c =
    some_from_any (has_start c.args.start) (row_chain c.args.self.now) (c.iter.ensures.rest ∙ c.deref.ensures.0) _ _ c.any.result c.any.ensures.ran (λ y b q k. search (rules, tests))
