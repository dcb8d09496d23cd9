use Rattle.std.proofs.Common.{sym, ◌∙◌}
use Rattle.chained.specs.Served.{objects_are}
use Rattle.chained.proofs.store.ChainedStore.objects.Goals as goal

pub returns : goal.returns
returns c = c.from.ensures ∙ c.args.self.now.lawful ∙ sym (objects_are c.args.self.now.table.bytes.now)
