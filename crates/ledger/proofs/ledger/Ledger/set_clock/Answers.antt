use Rattle.std.proofs.lemmas.Grind.{common_steps}
use Rattle.std.proofs.Common.{arith}
use Rattle.ledger.proofs.ledger.Ledger.set_clock.Goals as goal

pub invariant_of-self : goal.invariant_of-self
invariant_of-self c = record { counted = grind (arith, common_steps) }
