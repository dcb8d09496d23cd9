use Rattle.history.specs.Meaning.Op.{Put}
use Rattle.rows.proofs.Tabling.{changed}
use Rattle.rows.proofs.table.store.RowsStore.put.Goals as goal

pub returns-clause-after : goal.returns-clause-after
returns-clause-after c =
    changed c.args.self.now c.args.object c.in_ok-row.row (Put c.args.time c.args.mark c.args.number) c.index-self-row.result c.put-placed.new.self c.put-placed.result c.in_ok-row.ensures.0 c.in_ok-row.ensures.1 c.put-placed.ensures
