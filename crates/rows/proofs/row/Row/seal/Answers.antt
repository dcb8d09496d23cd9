use Rattle.std.proofs.Common.{rules}
use Rattle.history.specs.Chain.{seals}
use Rattle.history.specs.Meaning.Op.{Seal}
use Rattle.rows.proofs.Items.{mapped_from_zip}
use Rattle.rows.proofs.Rowing.{passed, kept}
use Rattle.rows.proofs.row.Row.seal.Goals as goal

pub invariant_of-self : goal.invariant_of-self
invariant_of-self c =
    let now = mapped_from_zip (seals c.args.start) c.args.self.now.items c.as_mut_slice.result.now c.change_each.new.items c.change_each.ensures c.as_mut_slice.ensures.value (λ x y h. search rules) in
    let k = kept c.args.self.now (Seal c.args.start) _ c.in_ok-may_seal.ensures now in record { short = k.short; lawful = k.lawful }

pub returns : goal.returns
returns c =
    let now = mapped_from_zip (seals c.args.start) c.args.self.now.items c.as_mut_slice.result.now c.change_each.new.items c.change_each.ensures c.as_mut_slice.ensures.value (λ x y h. search rules) in
    (passed _ c.in_ok-may_seal.ensures, now)
