use Rattle.std.proofs.Common.{sym, subst}
use Rattle.chained.specs.Means.{meaning, Reopens}
use Rattle.chained.proofs.Operations.{reopens}
use Rattle.chained.proofs.table.Chained.into_bytes.Goals as goal

pub returns : goal.returns
returns c = let bs = c.args.self.table.bytes.now in subst (Reopens (meaning bs)) (sym c.into_bytes.ensures) (reopens bs)
