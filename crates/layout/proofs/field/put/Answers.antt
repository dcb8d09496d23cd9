use Rattle.std.proofs.Common.{sym, arith}
use Rattle.std.proofs.lemmas.Bool.{leb-true, leb-false}
use Rattle.layout.proofs.Fields.{put_mid_lem, put_unfit}
use Rattle.layout.proofs.field.put.Goals as goal

pub returns-then-fits : goal.returns-then-fits
returns-then-fits c = put_mid_lem c.args.bytes.now c.args.at _ _ _ c.copy_from_slice.ensures.after (omega arith) (leb-true _ _ (sym c.if-fits.ensures))

pub returns-else-fits : goal.returns-else-fits
returns-else-fits c = sym (put_unfit c.args.bytes.now c.args.at c.args.part.now (leb-false _ _ (sym c.if-fits.ensures)))
