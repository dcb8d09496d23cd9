use Rattle.std.proofs.Common.{arith}
use Rattle.history.specs.Meaning.Op.{Drop}
use Rattle.encache.proofs.Kept.{held_accepted}
use Rattle.encache.proofs.cache.EncacheStore.drop.Goals as goal

pub invariant_of-self-2 : goal.invariant_of-self-2
invariant_of-self-2 g c =
    rw (c.cleared.ensures, c.line_number-k.ensures) (held_accepted _ _ c.self.inside.lines c.args.object c.self.invariant (Drop c.args.start) (omega arith) c.drop.ensures.after c.in_ok-drop.ensures.answer)
