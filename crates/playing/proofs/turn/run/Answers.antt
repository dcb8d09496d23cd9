use Rattle.std.proofs.Common.{◌≡◌, ◌++◌, sym, subst, rules}
use Rattle.script.specs.Printed.{printed}
use Rattle.playing.proofs.Runs.{Goes, goes_more, goes_all}
use Rattle.playing.proofs.turn.run.Goals as goal

pub loop-line-preserved : goal.loop-line-preserved
loop-line-preserved g c =
    let register = c.args.register.now in
    let script = c.args.script.now in
    let out : c.print.new.output.items ≡ c.loop-line.output.items ++ printed c.answer.result = search rules in
    subst (λ o. Goes g.S.Store.means register script c.next.new.self.rest.now o c.answer.new.register) (sym out)
    (goes_more g.S.Store.means register c.loop-line.register c.answer.new.register script _ c.in-Some.line.now _ _ c.answer.result
    c.loop-line.invariant c.in-Some.ensures.steps c.answer.ensures)

pub returns : goal.returns
returns g c = goes_all g.S.Store.means c.args.register.now c.loop-line.register c.args.script.now _ _ c.loop-line.invariant c.in-None.ensures.steps
