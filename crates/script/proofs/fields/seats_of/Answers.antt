use Rattle.std.proofs.Common.{rules}
use Rattle.script.proofs.Values.{in_range}
use Rattle.script.proofs.fields.seats_of.Goals as goal

pub returns : goal.returns
returns c = in_range c.args.value c.from.result (search rules)
