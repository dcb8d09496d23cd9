use Rattle.std.proofs.Common.{List, Decides, rules}
use Rattle.history.specs.declared.item.Item.{Item}
use Rattle.history.specs.Chain.{Lawful}
use Rattle.layout.specs.Layout.{lawful, history}
use Rattle.layout.proofs.Histories.{history_parts, history_from}
use Rattle.layout.proofs.lawful.is_lawful.Goals as goal

ruled : (xs : List Item) → Decides (history xs) (Lawful xs)
ruled xs = (history_parts xs, history_from xs)

pub returns-then-blanks_from : goal.returns-then-blanks_from
unfolding lawful
returns-then-blanks_from c = record { answer = search rules; rules = ruled }

pub returns-else-blanks_from : goal.returns-else-blanks_from
unfolding lawful
returns-else-blanks_from c = record { answer = search rules; rules = ruled }
