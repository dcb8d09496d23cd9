use Rattle.std.proofs.Common.{◌+◌, get_or, rules, arith}
use Rattle.layout.proofs.Fields.{made_at}
use Rattle.layout.proofs.field.bytes_at.Goals as goal

pub returns-in-None : goal.returns-in-None
returns-in-None g c = λ i l. made_at _ _ (λ k. get_or c.args.bytes.now (c.args.at + k) 0) c.from_fn.result 0 g.row.N (λ x r q k. search rules) c.from_fn.ensures.items.each i (omega arith) (omega arith)
