use Rattle.std.proofs.Common.{◌∙◌}
use Rattle.history.specs.Meaning.Op.{Extend}
use Rattle.chained.proofs.Operations.{planned, turned_down, extended}
use Rattle.chained.proofs.store.ChainedStore.extend.Goals as goal

pub invariant_of-self : goal.invariant_of-self
invariant_of-self c =
    let p = planned c.args.self.now.table.bytes.now c.args.object (Extend c.args.start c.args.time) _ c.in_ok-stretch.stretch _ _ c.stretched.ensures c.told.ensures c.in_ok-stretch.was in
    record { lawful = c.args.self.now.lawful ∙ (extended c.args.self.now.table.bytes.now c.stretch.new.self.bytes.now c.args.object c.args.start c.args.time c.in_ok-stretch.stretch p c.stretch.ensures).served }

pub returns : goal.returns
returns c =
    let p = planned c.args.self.now.table.bytes.now c.args.object (Extend c.args.start c.args.time) _ c.in_ok-stretch.stretch _ _ c.stretched.ensures c.told.ensures c.in_ok-stretch.was in
    let d = extended c.args.self.now.table.bytes.now c.stretch.new.self.bytes.now c.args.object c.args.start c.args.time c.in_ok-stretch.stretch p c.stretch.ensures in
    record { answer = d.answer; after = d.after }

pub returns-in_err-stretch : goal.returns-in_err-stretch
returns-in_err-stretch c =
    let d = turned_down c.args.self.now.table.bytes.now c.args.object (Extend c.args.start c.args.time) _ tt _ _ _ _ c.stretched.ensures c.told.ensures c.in_err-stretch.was c.from_residual.ensures.1 in
    record { answer = d.answer; after = d.after }
