use Rattle.std.proofs.Common.{◌∙◌}
use Rattle.history.specs.Meaning.Op.{Seal}
use Rattle.chained.proofs.Operations.{planned, turned_down, sealed}
use Rattle.chained.proofs.store.ChainedStore.seal.Goals as goal

pub invariant_of-self : goal.invariant_of-self
invariant_of-self c =
    let p = planned c.args.self.now.table.bytes.now c.args.object (Seal c.args.start) _ c.in_ok-place.place _ _ c.sealed.ensures c.told.ensures c.in_ok-place.was in
    record { lawful = c.args.self.now.lawful ∙ (sealed c.args.self.now.table.bytes.now c.seal.new.self.bytes.now c.args.object c.args.start c.in_ok-place.place p c.seal.ensures).served }

pub returns : goal.returns
returns c =
    let p = planned c.args.self.now.table.bytes.now c.args.object (Seal c.args.start) _ c.in_ok-place.place _ _ c.sealed.ensures c.told.ensures c.in_ok-place.was in
    let d = sealed c.args.self.now.table.bytes.now c.seal.new.self.bytes.now c.args.object c.args.start c.in_ok-place.place p c.seal.ensures in
    record { answer = d.answer; after = d.after }

pub returns-in_err-place : goal.returns-in_err-place
returns-in_err-place c =
    let d = turned_down c.args.self.now.table.bytes.now c.args.object (Seal c.args.start) _ tt _ _ _ _ c.sealed.ensures c.told.ensures c.in_err-place.was c.from_residual.ensures.1 in
    record { answer = d.answer; after = d.after }
