use Rattle.std.proofs.Common.{arith}
use Rattle.layout.proofs.Magic.{magic_is}
use Rattle.layout.proofs.lawful.has_magic.Goals as goal

pub returns : goal.returns
returns c = magic_is c.args.bytes.now c.starts_with.result (λ i. omega (arith, c.type_inv.bytes i)) c.starts_with.ensures.value
