use Rattle.std.proofs.Common.{◌+◌, ◌∙◌, ◌≢◌, take, sym, subst, arith}
use Rattle.std.proofs.lemmas.List.{take_more_set, take_all, get_or-set_other, get_or_default}
use Rattle.std.proofs.lemmas.List.Elements.{all_zip_more}
use Rattle.std.specs.List.{AllZip}
use Rattle.history.specs.declared.item.Item.{Item}
use Rattle.rows.proofs.row.change.change_each.Goals as goal

pub loop-item-preserved : goal.loop-item-preserved
loop-item-preserved g c =
    let k = c.loop-item.item-index in
    let inv = c.loop-item.invariant in
    record {
      done = subst (AllZip _ (take (k + 1) c.args.items.now)) (sym (take_more_set c.loop-item.items k c.change.result (omega (arith, c.loop-item-test.true, c.loop-item.auto.items)))) (all_zip_more _ c.args.items.now _ k _ c.change.result c.loop-item-test.true (get_or_default c.loop-item.items k _ _ (omega (arith, c.loop-item-test.true, c.loop-item.auto.items)) ∙ inv.left k _ (omega arith)) inv.done c.change.ensures);
      left = λ j d h. let ne : j ≢ k = omega arith in get_or-set_other c.loop-item.items k j c.change.result d ne ∙ inv.left j d (omega arith);
    }

pub returns : goal.returns
returns g c =
    let k = c.loop-item.item-index in
    let R = λ (x y : Item). g.F.Fn.post c.args.change (x, tt) y in
    subst (λ zs. AllZip R zs c.loop-item.items) (take_all k c.args.items.now c.loop-item-test.false) (subst (AllZip R (take k c.args.items.now)) (take_all k c.loop-item.items (omega (arith, c.loop-item-test.false, c.loop-item.auto.items))) c.loop-item.invariant.done)
