use Rattle.std.proofs.Common.{length}
use Rattle.history.specs.Meaning.{chain_of}
use Rattle.register.specs.View.{view}
use Rattle.register.proofs.Meets.{Looking}
use Rattle.register.proofs.register.Register.meet.Given as goal

abbrev pub invariant-loop-own : goal.invariant-loop-own
invariant-loop-own g l = Looking (view g.S.Store.means l.initial.self) l.own l.object l.time l.item (view g.S.Store.means l.self)

abbrev pub decreases-loop-own : goal.decreases-loop-own
decreases-loop-own g l = length (chain_of (g.S.Store.means l.self.store) l.object)
