use Rattle.std.proofs.Common.{rules, slice_index_or, None, arith}
use Rattle.history.specs.Chain.{extends}
use Rattle.history.specs.Meaning.Op.{Extend}
use Rattle.encache.proofs.Kept.{held_accepted, changed_by}
use Rattle.encache.proofs.cache.EncacheStore.extend.Goals as goal

pub invariant_of-self-2 : goal.invariant_of-self-2
invariant_of-self-2 g c =
    let lines = c.self.inside.lines in
    let line = changed_by (extends c.args.start c.args.time) c.args.object (slice_index_or lines c.line_number-k.result None) c.changed.result c.changed.ensures (λ x y h. search rules) in
    rw (line, c.line_number-k.ensures) (held_accepted _ _ lines c.args.object c.self.invariant (Extend c.args.start c.args.time) (omega arith) c.extend.ensures.after c.in_ok-extend.ensures.answer)
