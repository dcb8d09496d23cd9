use Rattle.history.specs.Meaning.Op.{Extend}
use Rattle.rows.proofs.Tabling.{changed}
use Rattle.rows.proofs.table.store.RowsStore.extend.Goals as goal

pub returns-clause-after : goal.returns-clause-after
returns-clause-after c =
    changed c.args.self.now c.args.object c.in_ok-row.row (Extend c.args.start c.args.time) c.index-self-row.result c.extend-extended.new.self c.extend-extended.result c.in_ok-row.ensures.0 c.in_ok-row.ensures.1 c.extend-extended.ensures
