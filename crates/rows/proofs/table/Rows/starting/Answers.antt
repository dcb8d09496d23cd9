use Rattle.std.proofs.Common.{rules, [], ◌∷◌}
use Rattle.history.specs.Chain.{fresh_item}
use Rattle.rows.proofs.Tabling.{all_alike}
use Rattle.rows.proofs.table.Rows.starting.Goals as goal

pub returns : goal.returns
returns c =
    all_alike c.from_fn.result (fresh_item 0 0 c.args.number ∷ []) 32 c.from_fn.ensures.items.long (λ i e h. let k = c.from_fn.ensures.items.at i e h in search rules)
