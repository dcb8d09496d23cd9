-- Refusals: their numbers, what a store's fault becomes, and the first of several.
use Rattle.std.specs.Prelude.{ℕ, Bool, true, false, cond, Some, None, Ok, Err, Option, Result}
use Rattle.history.specs.declared.item.Fault.{Fault}
use Rattle.history.specs.declared.item.Cause.{Cause}
use Rattle.history.specs.declared.item.Cause.TheVariants.{NoObject as NoObjectCause, OutOfRange as OutOfRangeCause, NoItem, Overlap, IsVersion, NoRoom as NoRoomCause}
use Rattle.ledger.specs.declared.refusal.Refusal.{Refusal}
use Rattle.ledger.specs.declared.refusal.Refusal.TheVariants.{NotFit, NoRecord, OutOfRange, RecordInUse, StaleTicket, Committed, Aborted, ClockSpent, TickBack, NoObject, InsideSpan, NoRoom, NoForm, Unlawful, Unreadable, Unfit}

abbrev pub refusal_number : Refusal → ℕ
refusal_number NotFit = 1
refusal_number NoRecord = 2
refusal_number OutOfRange = 3
refusal_number RecordInUse = 4
refusal_number StaleTicket = 5
refusal_number Committed = 6
refusal_number Aborted = 7
refusal_number ClockSpent = 8
refusal_number TickBack = 9
refusal_number (NoObject f) = 10
refusal_number (InsideSpan o p) = 11
refusal_number (NoRoom f) = 12
refusal_number (NoForm n) = 13
refusal_number Unlawful = 14
refusal_number Unreadable = 15
refusal_number Unfit = 16

-- what a store's fault turns a call down with
abbrev pub refusal_under : Fault → Cause → Refusal
refusal_under f NoObjectCause = NoObject f
refusal_under f OutOfRangeCause = NoObject f
refusal_under f NoItem = NoObject f
refusal_under f Overlap = InsideSpan f.object f.time
refusal_under f IsVersion = NoObject f
refusal_under f NoRoomCause = NoRoom f

abbrev pub refusal_of : Fault → Refusal
refusal_of f = refusal_under f f.cause

-- whether a refused update aborts its action
abbrev pub aborts : Refusal → Bool
aborts NotFit = false
aborts NoRecord = false
aborts OutOfRange = false
aborts RecordInUse = false
aborts StaleTicket = false
aborts Committed = false
aborts Aborted = false
aborts ClockSpent = false
aborts TickBack = false
aborts (NoObject f) = false
aborts (InsideSpan o p) = true
aborts (NoRoom f) = true
aborts (NoForm n) = false
aborts Unlawful = false
aborts Unreadable = false
aborts Unfit = false

abbrev pub when : Bool → Refusal → Option Refusal
when b why = cond b (Some why) None

-- the first of two checks that turns a call down
abbrev pub first : Option Refusal → Option Refusal → Option Refusal
first None later = later
first (Some why) later = Some why

-- a checked answer, and what is left after the check
abbrev pub checked : {A : Type 0} → Option Refusal → A → Result A Refusal
checked None a = Ok a
checked (Some why) a = Err why

abbrev pub left : {A : Type 0} → Option Refusal → A → A → A
left None new old = new
left (Some why) new old = old
