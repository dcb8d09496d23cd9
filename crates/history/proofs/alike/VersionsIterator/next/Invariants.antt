use Rattle.std.proofs.Common.{◌≡◌, length, drop}
use Rattle.history.specs.Meaning.{chain_of}
use Rattle.history.specs.Versions.{versions_left}
use Rattle.history.proofs.alike.VersionsIterator.next.Given as goal

abbrev pub invariant-loop-item : goal.invariant-loop-item
invariant-loop-item g l = versions_left g.S.Store.means l.self ≡ versions_left g.S.Store.means l.initial.self

abbrev pub decreases-loop-item : goal.decreases-loop-item
decreases-loop-item g l = length (drop l.self.place (chain_of (g.S.Store.means l.self.store.now) l.self.object))
