use Rattle.std.proofs.Common.{length}
use Rattle.layout.proofs.Rows.{cleared}
use Rattle.layout.proofs.laying.clear.Goals as goal

pub returns : goal.returns
returns c =
    let z = c.fill.ensures.after (λ y e. e) in
    let e = cleared (length c.args.bytes.now) c.args.objects c.args.records c.requires in
    cc (z, e)
