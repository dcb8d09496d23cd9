use Rattle.encache.proofs.Kept.{held_put}
use Rattle.encache.proofs.cache.EncacheStore.put.Goals as goal

pub invariant_of-self : goal.invariant_of-self
invariant_of-self g c =
    held_put _ _ c.self.inside.lines c.args.object c.self.invariant c.args.time c.args.mark c.args.number c.put.result c.put.ensures.after c.put.ensures.answer
