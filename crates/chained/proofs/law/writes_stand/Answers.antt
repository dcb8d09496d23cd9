use Rattle.chained.proofs.Stands.{writes_stand_lem}
use Rattle.chained.proofs.law.writes_stand.Goals as goal

pub returns : goal.returns
returns c = writes_stand_lem
