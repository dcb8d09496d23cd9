use Rattle.std.proofs.Common.{rules, tests}
use Rattle.history.specs.Meaning.Op.{Drop}
use Rattle.rows.specs.Rowed.{row_chain}
use Rattle.rows.proofs.Items.{drop_by_retain}
use Rattle.rows.proofs.Rowing.{passed, kept}
use Rattle.rows.proofs.row.Row.drop.Goals as goal

pub invariant_of-self : goal.invariant_of-self
invariant_of-self c =
    let now = drop_by_retain _ c.args.start _ (row_chain c.args.self.now) c.retain.new.self.items (λ x b q y k. search (rules, tests)) c.retain.ensures.filtered in
    let k = kept c.args.self.now (Drop c.args.start) _ c.in_ok-may_drop.ensures now in record { short = k.short; lawful = k.lawful }

pub returns : goal.returns
returns c =
    let now = drop_by_retain _ c.args.start _ (row_chain c.args.self.now) c.retain.new.self.items (λ x b q y k. search (rules, tests)) c.retain.ensures.filtered in
    (passed _ c.in_ok-may_drop.ensures, now)
