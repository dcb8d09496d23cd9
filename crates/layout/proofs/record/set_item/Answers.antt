use Rattle.std.proofs.Common.{◌≡◌, sym, subst, arith}
use Rattle.layout.specs.Edits.{Changed, with_item}
use Rattle.layout.proofs.Edit.{has_parts, item_put}
use Rattle.layout.proofs.Fields.{one_put, eight_put}
use Rattle.layout.proofs.record.set_item.Goals as goal

pub returns : goal.returns
returns c =
    let a = eight_put _ _ _ _ _ c.put.ensures c.to_be_bytes.ensures in
    let b = eight_put _ _ _ _ _ c.put-2.ensures c.to_be_bytes-2.ensures in
    let d = one_put _ _ _ _ _ c.put-3.ensures c.to_be_bytes-3.ensures (omega arith) in
    let f = eight_put _ _ _ _ _ c.put-4.ensures c.to_be_bytes-4.ensures in
    let e : c.put-4.new.bytes ≡ with_item c.args.bytes.now c.args.k c.args.item = cc in
    record {
      bytes = e;
      change = λ h. let p = has_parts _ _ h in subst (Changed _ _ _ _) (sym e) (item_put c.args.bytes.now c.args.k c.args.item p.0 p.1 (omega arith) (omega arith) (omega arith) (omega arith));
    }
