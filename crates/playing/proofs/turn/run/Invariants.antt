use Rattle.playing.proofs.Runs.{Goes}
use Rattle.playing.proofs.turn.run.Given as goal

abbrev pub invariant-loop-line : goal.invariant-loop-line
invariant-loop-line g l = Goes g.S.Store.means l.initial.register l.script l.line-iterator.rest.now l.output.items l.register
