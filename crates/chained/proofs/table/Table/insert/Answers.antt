use Rattle.chained.specs.Edits.{relink}
use Rattle.chained.proofs.table.Table.insert.Goals as goal

pub returns : goal.returns
unfolding relink
returns c =
    let e1 = c.set_item.ensures.bytes in
    let e2 = c.set_next.ensures.bytes in
    let e3 = c.set_next-2.ensures.bytes in
    let e4 = c.set_free.ensures.bytes in
    let f = c.next_at-rest.ensures in
    let g = c.next_at-next.ensures in
    cc
