use Rattle.std.proofs.Common.{slice_index_or, None, sym, ◌∙◌, arith}
use Rattle.encache.proofs.Kept.{hit_found, held_found}
use Rattle.encache.proofs.cache.EncacheStore.find.Goals as goal

pub returns-in-Some-clause-answer : goal.returns-in-Some-clause-answer
returns-in-Some-clause-answer g c =
    rw (← c.self.view_is) (hit_found (g.S.Store.means c.self.inside.below) c.args.object c.args.time c.line_number-k.result (slice_index_or c.self.inside.lines c.line_number-k.result None) c.in-Some.item (g.met.S.Store.sound c.self.inside.below) (c.self.invariant c.line_number-k.result) (sym c.in-Some.is ∙ c.hit.ensures))

pub invariant_of-self-2 : goal.invariant_of-self-2
invariant_of-self-2 g c =
    rw (c.line_number-k.ensures) (held_found _ _ c.self.inside.lines c.args.object c.args.time c.in_ok-item.item (omega arith) c.self.invariant c.find.ensures.after c.in_ok-item.ensures.answer.1)
