use Rattle.std.proofs.Common.{sym}
use Rattle.layout.proofs.Edit.{same_item}
use Rattle.layout.proofs.Fields.{one_at, eight_at}
use Rattle.layout.proofs.record.item_at.Goals as goal

pub returns : goal.returns
returns c =
    rw (sym c.offset-at.ensures)
    (same_item (eight_at _ _ _ _ c.from_be_bytes.ensures c.bytes_at.ensures) (eight_at _ _ _ _ c.from_be_bytes-2.ensures c.bytes_at-2.ensures) (one_at _ _ _ c.byte.ensures)
    (eight_at _ _ _ _ c.from_be_bytes-3.ensures c.bytes_at-3.ensures))
