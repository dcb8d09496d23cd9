use Rattle.std.proofs.Common.{sym, refl, ◌∙◌}
use Rattle.ledger.specs.declared.call.Call.TheVariants.{Abort}
use Rattle.ledger.specs.declared.record.Event.TheVariants.{Abort as EventAbort}
use Rattle.ledger.specs.declared.call.Answer.TheVariants.{Done}
use Rattle.ledger.specs.Checks.{ticket_check}
use Rattle.ledger.specs.Records.{change_record, concluded}
use Rattle.ledger.proofs.Checks.{checked_ok}
use Rattle.register.specs.View.{view}
use Rattle.register.proofs.Checks.{left_same, ledger_ends, step_of}
use Rattle.register.proofs.register.Register.abort.Goals as goal

pub returns : goal.returns
returns g c =
    let s = view g.S.Store.means c.args.self.now in
    let k = ticket_check s.records s.clocks c.args.ticket in
    let e = c.conclude.ensures in
    step_of g.V.Kind.form g.V.Kind.parse s (Abort c.args.ticket) k _ refl _ _ (checked_ok _ _ _ c.in_ok-check_fit.ensures).0
    (ledger_ends s _ (λ _. Done) tt (change_record (concluded EventAbort) s.records c.args.ticket.0) s.clocks k c.conclude.result e.answer refl e.records (e.clocks ∙ sym (left_same k _)) refl)
