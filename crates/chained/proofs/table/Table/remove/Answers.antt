use Rattle.std.proofs.Common.{◌≡◌}
use Rattle.layout.proofs.Edit.{same_item}
use Rattle.chained.specs.Edits.{blank_item, relink}
use Rattle.chained.proofs.table.Table.remove.Goals as goal

pub returns : goal.returns
unfolding relink
returns c =
    let b : c.default.result ≡ blank_item = same_item c.default.ensures.0 c.default.ensures.1.0 c.default.ensures.1.1.0 c.default.ensures.1.1.1 in
    let e1 = c.set_item.ensures.bytes in
    let e2 = c.set_next.ensures.bytes in
    let e3 = c.set_next-2.ensures.bytes in
    let e4 = c.set_free.ensures.bytes in
    let f = c.free_in-free.ensures in
    let g = c.next_at-next.ensures in
    cc
