use Rattle.std.proofs.Common.{◌∙◌}
use Rattle.rows.specs.Rowed.{row_chain}
use Rattle.rows.proofs.Items.{nth_from_get}
use Rattle.rows.proofs.row.Row.at.Goals as goal

pub returns : goal.returns
returns c =
    c.copied.ensures ∙ nth_from_get (row_chain c.args.self.now) c.deref.result.now c.args.place c.get.result c.deref.ensures.0 c.get.ensures.lookup.3
