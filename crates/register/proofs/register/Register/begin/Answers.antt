use Rattle.std.proofs.Common.{pred, set, refl}
use Rattle.ledger.specs.declared.call.Call.TheVariants.{Begin}
use Rattle.ledger.specs.declared.call.Answer.TheVariants.{Began}
use Rattle.ledger.specs.Checks.{begin_check}
use Rattle.ledger.specs.Records.{clock_at, opened, take_stamp}
use Rattle.ledger.proofs.Checks.{checked_ok}
use Rattle.register.specs.View.{view}
use Rattle.register.proofs.Checks.{ledger_ends, step_of}
use Rattle.register.proofs.register.Register.begin.Goals as goal

pub returns : goal.returns
returns g c =
    let s = view g.S.Store.means c.args.self.now in
    let site = c.args.site in
    let k = begin_check s.records s.clocks c.args.number site c.args.lifetime in
    let e = c.begin.ensures in
    step_of g.V.Kind.form g.V.Kind.parse s (Begin c.args.number site c.args.lifetime) k _ refl _ _ (checked_ok _ _ _ c.in_ok-check_fit.ensures).0
    (ledger_ends s _ Began _ (set s.records (pred c.args.number) (opened (clock_at s.clocks site) site c.args.lifetime)) (take_stamp s.clocks site) k c.begin.result e.answer refl e.records e.clocks refl)
