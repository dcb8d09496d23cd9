use Rattle.std.proofs.Common.{sym, ◌∙◌}
use Rattle.chained.specs.Served.{served_lawful, served_unlawful}
use Rattle.chained.proofs.table.Chained.new.Goals as goal
use Rattle.chained.proofs.table.Chained.new.Goals.{then-is_lawful, else-is_lawful}

pub invariant_of-result : goal.invariant_of-result
invariant_of-result c =
    elim c.if-is_lawful.branch [
      | then-is_lawful w ↦ let s = served_lawful c.args.bytes.now (sym c.is_lawful.ensures.answer ∙ w.if-is_lawful.true) in record { lawful = cc }
      | else-is_lawful w ↦ let s = served_unlawful c.args.bytes.now (sym c.is_lawful.ensures.answer ∙ w.if-is_lawful.false) in record { lawful = cc }
    ]
