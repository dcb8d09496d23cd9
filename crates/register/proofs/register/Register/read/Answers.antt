use Rattle.std.proofs.Common.{Some, refl, subst}
use Rattle.std.proofs.lemmas.Result.{err_from_is_err_and}
use Rattle.ledger.specs.declared.call.Call.TheVariants.{Read}
use Rattle.ledger.specs.declared.call.Answer.TheVariants.{Value}
use Rattle.ledger.specs.Answers.{told, unread}
use Rattle.ledger.specs.Checks.{action_check}
use Rattle.ledger.specs.Time.{site_of}
use Rattle.ledger.proofs.Checks.{checked_ok, checked_err}
use Rattle.register.specs.Calls.{Ends, look}
use Rattle.register.specs.View.{view}
use Rattle.register.proofs.Checks.{passed_step, turned_down}
use Rattle.register.proofs.register.Register.read.Goals as goal

pub returns-in_err-time : goal.returns-in_err-time
returns-in_err-time g c =
    let p = err_from_is_err_and c.from_residual-in_err-time.result c.from_residual-in_err-time.ensures.1 in
    let s = view g.S.Store.means c.args.self.now in
    rw (p.1, p.2)
    (turned_down g.V.Kind.form g.V.Kind.parse s (Read c.args.ticket c.args.object) (action_check s.records s.clocks c.args.ticket) _ refl _
    (checked_ok _ _ _ c.in_ok-check_fit.ensures).0 (checked_err _ _ _ c.in_err-time.ensures))

pub returns : goal.returns
returns g c =
    let s = view g.S.Store.means c.args.self.now in
    let t = view g.S.Store.means c.look.new.self in
    let ticket = c.args.ticket in
    let timed = checked_ok _ _ _ c.in_ok-time.ensures in
    passed_step g.V.Kind.form g.V.Kind.parse s (Read ticket c.args.object) (action_check s.records s.clocks ticket) _ refl t (told unread Value c.look.result)
    (checked_ok _ _ _ c.in_ok-check_fit.ensures).0 timed.0
    (subst (λ p. Ends (look g.V.Kind.parse s (Some ticket) c.args.object p (site_of ticket.1)) s (told unread Value c.look.result) t) timed.1 c.look.ensures)
