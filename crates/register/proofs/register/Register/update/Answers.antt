use Rattle.std.proofs.Common.{◌≡◌, Err, refl, subst}
use Rattle.history.specs.Meaning.{Outcome, answered}
use Rattle.history.specs.Meaning.Op.{Put}
use Rattle.std.proofs.lemmas.Result.{err_from_is_err_and}
use Rattle.ledger.specs.declared.call.Call.TheVariants.{Update}
use Rattle.ledger.specs.Checks.{action_check, time_of}
use Rattle.ledger.proofs.Checks.{checked_ok, checked_err}
use Rattle.register.specs.View.{view}
use Rattle.register.proofs.Checks.{turned_down}
use Rattle.register.proofs.Stores.{update_refused}
use Rattle.register.proofs.register.Register.update.Goals as goal

pub returns : goal.returns
returns g c =
    let s = view g.S.Store.means c.args.self.now in
    let timed = checked_ok _ _ _ c.in_ok-time.ensures in
    let at = timed.1 in
    let e = c.in-Err.ensures in
    let is : Put c.in_ok-time.time c.args.ticket.0 c.to_form.result ≡ Put (time_of s.clocks c.args.ticket.1) c.args.ticket.0 (g.V.Kind.form c.args.value) = cc in
    update_refused g.V.Kind.form g.V.Kind.parse s c.args.ticket c.args.object c.args.value
    _ (checked_ok _ _ _ c.in_ok-check_fit.ensures).0 timed.0
    (subst (λ op. Outcome s.store c.args.object op (g.S.Store.means c.put.new.self)) is e.after) refl
    c.in-Err.fault c.from-refusal.result
    (subst (λ op. Err c.in-Err.fault ≡ answered s.store c.args.object op tt) is e.answer)
    c.from-refusal.ensures c.turn_down.ensures.records c.turn_down.ensures.clocks

pub returns-in_err-time : goal.returns-in_err-time
returns-in_err-time g c =
    let p = err_from_is_err_and c.from_residual-in_err-time.result c.from_residual-in_err-time.ensures.1 in
    let s = view g.S.Store.means c.args.self.now in
    rw (p.1, p.2)
    (turned_down g.V.Kind.form g.V.Kind.parse s (Update c.args.ticket c.args.object c.args.value) (action_check s.records s.clocks c.args.ticket) _ refl _
    (checked_ok _ _ _ c.in_ok-check_fit.ensures).0 (checked_err _ _ _ c.in_err-time.ensures))
