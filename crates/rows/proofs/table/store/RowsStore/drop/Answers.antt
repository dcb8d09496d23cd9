use Rattle.history.specs.Meaning.Op.{Drop}
use Rattle.rows.proofs.Tabling.{changed}
use Rattle.rows.proofs.table.store.RowsStore.drop.Goals as goal

pub returns-clause-after : goal.returns-clause-after
returns-clause-after c =
    changed c.args.self.now c.args.object c.in_ok-row.row (Drop c.args.start) c.index-self-row.result c.drop-dropped.new.self c.drop-dropped.result c.in_ok-row.ensures.0 c.in_ok-row.ensures.1 c.drop-dropped.ensures
