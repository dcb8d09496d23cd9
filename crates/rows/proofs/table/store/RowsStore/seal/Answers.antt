use Rattle.history.specs.Meaning.Op.{Seal}
use Rattle.rows.proofs.Tabling.{changed}
use Rattle.rows.proofs.table.store.RowsStore.seal.Goals as goal

pub returns-clause-after : goal.returns-clause-after
returns-clause-after c =
    changed c.args.self.now c.args.object c.in_ok-row.row (Seal c.args.start) c.index-self-row.result c.seal-sealed.new.self c.seal-sealed.result c.in_ok-row.ensures.0 c.in_ok-row.ensures.1 c.seal-sealed.ensures
