use Rattle.std.proofs.Common.{Ok, sym, ap, ◌∙◌}
use Rattle.history.specs.Chain.{nth_item}
use Rattle.history.specs.Meaning.Op.{At}
use Rattle.history.proofs.Outcomes.{accepted_answer}
use Rattle.layout.specs.Layout.{items}
use Rattle.chained.specs.Means.{meaning}
use Rattle.chained.specs.Served.{serves}
use Rattle.chained.proofs.Operations.{planned, turned_down}
use Rattle.chained.proofs.Stands.{accepted_in}
use Rattle.chained.proofs.store.ChainedStore.at.Goals as goal

pub returns-in_err-first : goal.returns-in_err-first
returns-in_err-first c =
    (turned_down c.args.self.now.table.bytes.now c.args.object At _ _ _ _ _ _ c.first.ensures c.told.ensures c.in_err-first.was c.from_residual.ensures.1).answer

pub returns : goal.returns
returns c =
    let p = planned c.args.self.now.table.bytes.now c.args.object At _ c.in_ok-first.first _ _ c.first.ensures c.told.ensures c.in_ok-first.was in
    let s = serves c.args.self.now.table.bytes.now c.args.object (accepted_in _ c.args.object At p.0).0 in
    ap Ok (c.nth_from.ensures ∙ ap (λ k. nth_item (items c.args.self.now.table.bytes.now k) c.args.place) p.1 ∙ ap (λ xs. nth_item xs c.args.place) (sym s.chain))
    ∙ accepted_answer (meaning c.args.self.now.table.bytes.now) c.args.object At _ p.0
