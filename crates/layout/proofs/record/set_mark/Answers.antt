use Rattle.std.proofs.Common.{◌≡◌, sym, subst, arith}
use Rattle.layout.specs.Edits.{Changed, with_mark}
use Rattle.layout.proofs.Edit.{has_parts, mark_put}
use Rattle.layout.proofs.Fields.{one_put}
use Rattle.layout.proofs.record.set_mark.Goals as goal

pub returns : goal.returns
returns c =
    let e : c.put.new.bytes ≡ with_mark c.args.bytes.now c.args.k c.args.mark = cc (one_put _ _ _ _ _ c.put.ensures c.to_be_bytes.ensures (omega arith)) in
    record {
      bytes = e;
      change = λ h. let p = has_parts _ _ h in subst (Changed _ _ _ _) (sym e) (mark_put c.args.bytes.now c.args.k p.0 p.1 c.args.mark (omega arith));
    }
