use Rattle.std.proofs.Common.{◌≡◌, drop}
use Rattle.register.specs.Start.{fit_chains}
use Rattle.register.proofs.start.is_before.Given as goal

abbrev pub invariant-loop-object : goal.invariant-loop-object
invariant-loop-object g l = fit_chains l.clock (g.S.Store.means l.store).chains ≡ fit_chains l.clock (drop l.object (g.S.Store.means l.store).chains)
