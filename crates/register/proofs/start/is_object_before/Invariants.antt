use Rattle.std.proofs.Common.{◌≡◌, ◌<◌, ◌≤◌, length, drop}
use Rattle.history.specs.Meaning.{chain_of, objects_of}
use Rattle.register.specs.Start.{fit_chain}
use Rattle.register.proofs.start.is_object_before.Given as goal

abbrev pub invariant-loop-place : goal.invariant-loop-place
invariant-loop-place g l =
    l.object < objects_of (g.S.Store.means l.store)
    → (fit_chain l.clock (chain_of (g.S.Store.means l.store) l.object) ≡ fit_chain l.clock (drop l.place (chain_of (g.S.Store.means l.store) l.object)))
    × (l.place ≤ length (chain_of (g.S.Store.means l.store) l.object))
