use Rattle.std.proofs.Common.{◌-◌, ◌≤◌, length}
use Rattle.history.specs.Meaning.{chain_of}
use Rattle.register.specs.View.{view}
use Rattle.register.proofs.Walks.{Walking}
use Rattle.register.proofs.register.Register.settle_all.Given as goal

abbrev pub invariant-loop-item : goal.invariant-loop-item
invariant-loop-item g l =
    Walking (view g.S.Store.means l.initial.self) l.object l.walk (view g.S.Store.means l.self) × (l.walk.sealed ≤ l.walk.place)

abbrev pub decreases-loop-item : goal.decreases-loop-item
decreases-loop-item g l = length (chain_of (g.S.Store.means l.self.store) l.object) - l.walk.place
