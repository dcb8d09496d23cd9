use Rattle.chained.proofs.Operations.{reopens}
use Rattle.chained.proofs.table.Chained.bytes.Goals as goal

pub returns : goal.returns
returns c = reopens c.args.self.now.table.bytes.now
