use Rattle.std.proofs.Common.{rules, slice_index_or, None, arith}
use Rattle.history.specs.Chain.{seals}
use Rattle.history.specs.Meaning.Op.{Seal}
use Rattle.encache.proofs.Kept.{held_accepted, changed_by}
use Rattle.encache.proofs.cache.EncacheStore.seal.Goals as goal

pub invariant_of-self-2 : goal.invariant_of-self-2
invariant_of-self-2 g c =
    let lines = c.self.inside.lines in
    let line = changed_by (seals c.args.start) c.args.object (slice_index_or lines c.line_number-k.result None) c.changed.result c.changed.ensures (λ x y h. search rules) in
    rw (line, c.line_number-k.ensures) (held_accepted _ _ lines c.args.object c.self.invariant (Seal c.args.start) (omega arith) c.seal.ensures.after c.in_ok-seal.ensures.answer)
