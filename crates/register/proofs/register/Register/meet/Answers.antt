use Rattle.std.proofs.Common.{◌≡◌, true, false, ◌||◌, refl, subst}
use Rattle.history.specs.Chain.{is_version}
use Rattle.register.specs.Calls.{is_own}
use Rattle.register.specs.Settling.{Settles}
use Rattle.register.specs.View.{view}
use Rattle.register.proofs.Meets.{looked_held, looked_plain, looked_committed, looked_less, looked_again}
use Rattle.register.proofs.register.Register.meet.Goals as goal

pub settle_item-requires : goal.settle_item-requires
settle_item-requires g c =
    let token : (is_version c.loop-own.item || is_own c.args.own c.loop-own.item) ≡ false = cc in
    λ _. looked_held _ _ _ _ _ _ c.loop-own.invariant (g.met.S.Store.sound c.loop-own.self.store) token

pub returns-in-Committed : goal.returns-in-Committed
returns-in-Committed g c =
    let token : (is_version c.loop-own.item || is_own c.args.own c.loop-own.item) ≡ false = cc in
    let h = subst (λ w. Settles (view g.S.Store.means c.loop-own.self) c.args.object c.loop-own.item w (view g.S.Store.means c.settle_item.new.self)) c.in-Committed.is c.in_ok-settle_item.ensures in
    looked_committed _ _ _ _ _ _ c.loop-own.invariant _ (g.met.S.Store.sound c.loop-own.self.store) token h

pub loop-own-smaller : goal.loop-own-smaller
loop-own-smaller g c =
    let h = subst (λ w. Settles (view g.S.Store.means c.loop-own.self) c.args.object c.loop-own.item w (view g.S.Store.means c.settle_item.new.self)) c.in-Aborted.is c.in_ok-settle_item.ensures in
    looked_less _ _ _ _ _ _ c.loop-own.invariant (view g.S.Store.means c.settle_item.new.self) h (view g.S.Store.means (record { store = c.find.new.self; ledger = c.settle_item.new.self.ledger; fit = c.settle_item.new.self.fit; kind = c.settle_item.new.self.kind })) c.in_ok-item-in-Aborted.ensures.after refl refl refl

pub loop-own-preserved : goal.loop-own-preserved
loop-own-preserved g c =
    let token : (is_version c.loop-own.item || is_own c.args.own c.loop-own.item) ≡ false = cc in
    let h = subst (λ w. Settles (view g.S.Store.means c.loop-own.self) c.args.object c.loop-own.item w (view g.S.Store.means c.settle_item.new.self)) c.in-Aborted.is c.in_ok-settle_item.ensures in
    looked_again _ _ _ _ _ _ c.loop-own.invariant (view g.S.Store.means c.settle_item.new.self) h (view g.S.Store.means (record { store = c.find.new.self; ledger = c.settle_item.new.self.ledger; fit = c.settle_item.new.self.fit; kind = c.settle_item.new.self.kind })) c.in_ok-item-in-Aborted.ensures.after refl refl refl c.in_ok-item-in-Aborted.item token c.in_ok-item-in-Aborted.ensures.answer

pub returns : goal.returns
returns g c =
    let plain : (is_version c.loop-own.item || is_own c.args.own c.loop-own.item) ≡ true = cc in
    looked_plain _ _ _ _ _ _ c.loop-own.invariant (g.met.S.Store.sound c.loop-own.self.store) plain
