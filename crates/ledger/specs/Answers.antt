-- Each call's result as an answer.
use Rattle.std.specs.Prelude.{Ok, Err, Result}
use Rattle.ledger.specs.declared.call.Answer.{Answer}
use Rattle.ledger.specs.declared.call.Answer.TheVariants.{Wait, Refused}
use Rattle.ledger.specs.declared.call.Unread.{Unread}
use Rattle.ledger.specs.declared.call.Unread.TheVariants.{Wait as WaitRead, Refused as RefusedRead}

-- what `good` makes of what a call gave, or `bad` of why it gave nothing
abbrev pub told : {A E V : Type 0} → (E → Answer V) → (A → Answer V) → Result A E → Answer V
told bad good (Ok a) = good a
told bad good (Err why) = bad why

-- why a read or a glance gave nothing
abbrev pub unread : {V : Type 0} → Unread → Answer V
unread (WaitRead r) = Wait r
unread (RefusedRead why) = Refused why
