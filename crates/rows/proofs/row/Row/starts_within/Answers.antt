use Rattle.std.proofs.Common.{rules, tests, ◌∙◌}
use Rattle.history.specs.Chain.{starts_within}
use Rattle.rows.specs.Rowed.{row_chain}
use Rattle.rows.proofs.Items.{some_from_any}
use Rattle.rows.proofs.row.Row.starts_within.Goals as goal

pub returns : goal.returns
returns c =
    some_from_any (starts_within c.args.start c.args.time) (row_chain c.args.self.now) (c.iter.ensures.rest ∙ c.deref.ensures.0) _ _ c.any.result c.any.ensures.ran (λ y b q k. search (rules, tests))
