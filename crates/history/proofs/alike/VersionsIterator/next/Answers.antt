use Rattle.std.proofs.Common.{rules, ◌+◌, ◌∷◌, drop, sym, ap, ◌∙◌}
use Rattle.history.specs.Alike.{versions}
use Rattle.history.specs.Meaning.{chain_of}
use Rattle.history.proofs.Versions.{nth_none, place_below, first_version, no_version, fewer}
use Rattle.history.proofs.alike.VersionsIterator.next.Goals as goal

pub overflow_add-self : goal.overflow_add-self
overflow_add-self g c =
    let w = c.loop-item.self in
    let below = place_below _ w.object w.place c.in-Some.item (g.met.S.Store.sound w.store.now) c.in-Some.ensures in
    search rules

pub returns-then-is_version-clause-steps : goal.returns-then-is_version-clause-steps
returns-then-is_version-clause-steps g c =
    let w = c.loop-item.self in
    sym c.loop-item.invariant ∙ first_version (chain_of (g.S.Store.means w.store.now) w.object) w.place c.in-Some.item c.in-Some.ensures (sym c.is_version.ensures ∙ c.if-is_version.true) ∙ ap (λ v. v ∷ versions (drop (w.place + 1) (chain_of (g.S.Store.means w.store.now) w.object))) (sym c.version.ensures)

pub returns-then-is_version-clause-goes : goal.returns-then-is_version-clause-goes
returns-then-is_version-clause-goes g c =
    let w = c.loop-item.self in
    let steps = sym c.loop-item.invariant ∙ first_version (chain_of (g.S.Store.means w.store.now) w.object) w.place c.in-Some.item c.in-Some.ensures (sym c.is_version.ensures ∙ c.if-is_version.true) in
    search rules

pub loop-item-smaller : goal.loop-item-smaller
loop-item-smaller g c =
    let w = c.loop-item.self in
    fewer (chain_of (g.S.Store.means w.store.now) w.object) w.place c.in-Some.item c.in-Some.ensures

pub loop-item-preserved : goal.loop-item-preserved
loop-item-preserved g c =
    let w = c.loop-item.self in
    sym (no_version (chain_of (g.S.Store.means w.store.now) w.object) w.place c.in-Some.item c.in-Some.ensures (sym c.is_version.ensures ∙ c.if-is_version.false)) ∙ c.loop-item.invariant

pub returns-clause-steps : goal.returns-clause-steps
returns-clause-steps g c =
    let w = c.loop-item.self in
    let none = ap versions (nth_none (chain_of (g.S.Store.means w.store.now) w.object) w.place (sym c.in_default.is ∙ c.item.ensures)) in
    (sym c.loop-item.invariant ∙ none, none)
