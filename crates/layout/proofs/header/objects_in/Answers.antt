use Rattle.layout.proofs.Fields.{two_at}
use Rattle.layout.proofs.header.objects_in.Goals as goal

pub returns : goal.returns
returns c = two_at _ _ _ _ c.from_be_bytes.ensures c.bytes_at.ensures
