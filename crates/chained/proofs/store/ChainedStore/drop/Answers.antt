use Rattle.std.proofs.Common.{◌∙◌}
use Rattle.history.specs.Meaning.Op.{Drop}
use Rattle.chained.proofs.Operations.{planned, turned_down, dropped}
use Rattle.chained.proofs.store.ChainedStore.drop.Goals as goal

pub invariant_of-self : goal.invariant_of-self
invariant_of-self c =
    let p = planned c.args.self.now.table.bytes.now c.args.object (Drop c.args.start) _ c.in_ok-link.link _ _ c.dropped.ensures c.told.ensures c.in_ok-link.was in
    record { lawful = c.args.self.now.lawful ∙ (dropped c.args.self.now.table.bytes.now c.remove.new.self.bytes.now c.args.object c.args.start c.in_ok-link.link p c.remove.ensures).served }

pub returns : goal.returns
returns c =
    let p = planned c.args.self.now.table.bytes.now c.args.object (Drop c.args.start) _ c.in_ok-link.link _ _ c.dropped.ensures c.told.ensures c.in_ok-link.was in
    let d = dropped c.args.self.now.table.bytes.now c.remove.new.self.bytes.now c.args.object c.args.start c.in_ok-link.link p c.remove.ensures in
    record { answer = d.answer; after = d.after }

pub returns-in_err-link : goal.returns-in_err-link
returns-in_err-link c =
    let d = turned_down c.args.self.now.table.bytes.now c.args.object (Drop c.args.start) _ tt _ _ _ _ c.dropped.ensures c.told.ensures c.in_err-link.was c.from_residual.ensures.1 in
    record { answer = d.answer; after = d.after }
