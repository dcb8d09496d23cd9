use Rattle.script.proofs.Ended.{line_printed}
use Rattle.script.proofs.Shown.{own_line}
use Rattle.script.proofs.Spelled.{line_read, line_spelled}
use Rattle.script.proofs.law.lines_stand.Goals as goal

pub returns : goal.returns
returns c = record { reads = line_read; spells = line_spelled; back = λ call fits. line_spelled _ call (own_line call fits); prints = line_printed }
