use Rattle.std.proofs.Common.{sym, subst, arith}
use Rattle.layout.specs.Edits.{Freed}
use Rattle.layout.proofs.Edit.{free_put}
use Rattle.layout.proofs.Fields.{two_put}
use Rattle.layout.proofs.record.set_free.Goals as goal

pub returns : goal.returns
returns c =
    let e = two_put _ _ _ _ _ c.put.ensures c.to_be_bytes.ensures in
    record {
      bytes = e;
      change = λ h. subst (Freed _ _) (sym e) (free_put c.args.bytes.now c.args.k h (omega arith));
    }
