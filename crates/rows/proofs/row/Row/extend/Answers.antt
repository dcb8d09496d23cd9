use Rattle.std.proofs.Common.{rules}
use Rattle.history.specs.Chain.{extends}
use Rattle.history.specs.Meaning.Op.{Extend}
use Rattle.rows.proofs.Items.{mapped_from_zip}
use Rattle.rows.proofs.Rowing.{passed, kept}
use Rattle.rows.proofs.row.Row.extend.Goals as goal

pub invariant_of-self : goal.invariant_of-self
invariant_of-self c =
    let now = mapped_from_zip (extends c.args.start c.args.time) c.args.self.now.items c.as_mut_slice.result.now c.change_each.new.items c.change_each.ensures c.as_mut_slice.ensures.value (λ x y h. search rules) in
    let k = kept c.args.self.now (Extend c.args.start c.args.time) _ c.in_ok-may_extend.ensures now in record { short = k.short; lawful = k.lawful }

pub returns : goal.returns
returns c =
    let now = mapped_from_zip (extends c.args.start c.args.time) c.args.self.now.items c.as_mut_slice.result.now c.change_each.new.items c.change_each.ensures c.as_mut_slice.ensures.value (λ x y h. search rules) in
    (passed _ c.in_ok-may_extend.ensures, now)
