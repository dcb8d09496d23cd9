use Rattle.std.proofs.Common.{rules}
use Rattle.std.proofs.lemmas.Fmt.{decimal_digit}
use Rattle.script.proofs.writing.VecU8Output.put_digit.Goals as goal

pub returns : goal.returns
returns c = search (rules, decimal_digit)
