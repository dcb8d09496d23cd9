use Rattle.history.proofs.Finds.{histories_stand_lem}
use Rattle.history.proofs.law.histories_stand.Goals as goal

pub returns : goal.returns
returns c = histories_stand_lem
