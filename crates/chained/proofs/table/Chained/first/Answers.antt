use Rattle.std.proofs.Common.{arith}
use Rattle.history.specs.Meaning.Op.{At}
use Rattle.chained.specs.Served.{no_object, cause_at}
use Rattle.chained.specs.Served.{few}
use Rattle.chained.proofs.table.Chained.first.Goals as goal

pub returns-in-Ok : goal.returns-in-Ok
returns-in-Ok c = (cause_at c.args.self.now.table.bytes.now c.args.object At (omega (arith, c.in-Ok.ensures, c.args.self.now.lawful)), omega (arith, c.in-Ok.ensures))

pub returns-in_default : goal.returns-in_default
returns-in_default c = no_object c.args.self.now.table.bytes.now c.args.object At (omega (arith, c.in-Ok.ensures, c.args.self.now.lawful))

pub returns-in_default-2 : goal.returns-in_default-2
returns-in_default-2 c = no_object c.args.self.now.table.bytes.now c.args.object At (let h = c.in_default.ensures in omega (arith, h, few c.args.self.now.table.bytes.now))
