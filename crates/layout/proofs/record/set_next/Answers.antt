use Rattle.std.proofs.Common.{◌≡◌, sym, subst, arith}
use Rattle.layout.specs.Edits.{Changed, with_next}
use Rattle.layout.proofs.Edit.{has_parts, next_put}
use Rattle.layout.proofs.Fields.{two_put}
use Rattle.layout.proofs.record.set_next.Goals as goal

pub returns : goal.returns
returns c =
    let e : c.put.new.bytes ≡ with_next c.args.bytes.now c.args.k c.args.next = cc (two_put _ _ _ _ _ c.put.ensures c.to_be_bytes.ensures) in
    record {
      bytes = e;
      change = λ h. let p = has_parts _ _ h in subst (Changed _ _ _ _) (sym e) (next_put c.args.bytes.now c.args.k p.0 p.1 c.args.next (omega arith));
    }
