use Rattle.register.specs.View.{view}
use Rattle.register.proofs.Looks.{looks_read}
use Rattle.register.proofs.register.Register.look.Goals as goal

pub returns : goal.returns
returns g c =
    let f = c.in_ok-found.ensures in
    looks_read g.V.Kind.parse (view g.S.Store.means c.args.self.now) c.args.own c.args.object c.args.time c.args.site
    (g.S.Store.means c.find.new.self) f.answer.0 f.after c.in_ok-item.item (view g.S.Store.means c.meet.new.self) (view g.S.Store.means c.read_item.new.self) _ c.in_ok-item.ensures c.read_item.ensures
