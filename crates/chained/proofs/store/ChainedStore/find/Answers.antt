use Rattle.std.proofs.Common.{Some, ap, sym, ◌∙◌}
use Rattle.history.specs.Chain.{find_in}
use Rattle.history.specs.Meaning.Op.{Find}
use Rattle.history.proofs.Outcomes.{find_outcome}
use Rattle.chained.specs.Means.{meaning}
use Rattle.chained.specs.Served.{serves}
use Rattle.chained.proofs.Causes.{sought}
use Rattle.chained.proofs.Openings.{found}
use Rattle.chained.proofs.Operations.{planned, not_found}
use Rattle.chained.proofs.store.ChainedStore.find.Goals as goal

pub returns : goal.returns
returns c =
    let p = planned c.args.self.now.table.bytes.now c.args.object (Find c.args.time) _ c.in_ok-place.place _ _ c.place.ensures c.told.ensures c.in_ok-place.was in
    let s = serves c.args.self.now.table.bytes.now c.args.object (sought c.args.self.now.table.bytes.now c.args.object c.args.time p.0).object in
    record {
      answer = (p.0, ap (λ xs. find_in xs c.args.time) s.chain ∙ found c.args.self.now.table.bytes.now c.args.object s c.args.time ∙ ap Some (sym p.1.item));
      after = find_outcome (meaning c.args.self.now.table.bytes.now) c.args.object c.args.time;
    }

pub returns-in_err-place : goal.returns-in_err-place
returns-in_err-place c =
    record {
      answer = not_found c.args.self.now.table.bytes.now c.args.object c.args.time _ _ _ _ _ c.place.ensures c.told.ensures c.in_err-place.was c.from_residual.ensures.1;
      after = find_outcome (meaning c.args.self.now.table.bytes.now) c.args.object c.args.time;
    }
