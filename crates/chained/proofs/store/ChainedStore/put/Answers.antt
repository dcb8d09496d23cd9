use Rattle.std.proofs.Common.{◌∙◌, arith}
use Rattle.history.specs.Meaning.Op.{Put}
use Rattle.chained.proofs.Operations.{planned, turned_down, put_done}
use Rattle.chained.proofs.store.ChainedStore.put.Goals as goal

pub invariant_of-self : goal.invariant_of-self
invariant_of-self c =
    let p = planned c.args.self.now.table.bytes.now c.args.object (Put c.args.time c.args.mark c.args.number) _ c.in_ok-link.link _ _ c.placed.ensures c.told.ensures c.in_ok-link.was in
    record { lawful = c.args.self.now.lawful ∙ (put_done c.args.self.now.table.bytes.now c.insert.new.self.bytes.now c.args.object c.args.time c.args.mark c.args.number c.in_ok-link.link (omega arith) p (rw (← c.fresh.ensures) c.insert.ensures)).served }

pub returns : goal.returns
returns c =
    let p = planned c.args.self.now.table.bytes.now c.args.object (Put c.args.time c.args.mark c.args.number) _ c.in_ok-link.link _ _ c.placed.ensures c.told.ensures c.in_ok-link.was in
    let d = put_done c.args.self.now.table.bytes.now c.insert.new.self.bytes.now c.args.object c.args.time c.args.mark c.args.number c.in_ok-link.link (omega arith) p (rw (← c.fresh.ensures) c.insert.ensures) in
    record { answer = d.answer; after = d.after }

pub returns-in_err-link : goal.returns-in_err-link
returns-in_err-link c =
    let d = turned_down c.args.self.now.table.bytes.now c.args.object (Put c.args.time c.args.mark c.args.number) _ tt _ _ _ _ c.placed.ensures c.told.ensures c.in_err-link.was c.from_residual.ensures.1 in
    record { answer = d.answer; after = d.after }
