use Rattle.std.proofs.Common.{◌≡◌, sym, subst, arith}
use Rattle.layout.specs.Edits.{Changed, with_end}
use Rattle.layout.proofs.Edit.{has_parts, end_put}
use Rattle.layout.proofs.Fields.{eight_put}
use Rattle.layout.proofs.record.set_end.Goals as goal

pub returns : goal.returns
returns c =
    let e : c.put.new.bytes ≡ with_end c.args.bytes.now c.args.k c.args.«end» = cc (eight_put _ _ _ _ _ c.put.ensures c.to_be_bytes.ensures) in
    record {
      bytes = e;
      change = λ h. let p = has_parts _ _ h in subst (Changed _ _ _ _) (sym e) (end_put c.args.bytes.now c.args.k p.0 p.1 c.args.«end» (omega arith));
    }
