-- What the ledger checks before a call, in order.
use Rattle.std.specs.Prelude.{ℕ, cond, not, ◌||◌, List, Some, None, Option, ◌==◌, nat_le, nat_lt}
use Rattle.ledger.specs.declared.record.Standing.{Standing}
use Rattle.ledger.specs.declared.record.Standing.TheVariants.{Open, Committed, Aborted}
use Rattle.ledger.specs.declared.record.CommitRecord.{CommitRecord}
use Rattle.ledger.specs.declared.refusal.Refusal.{Refusal}
use Rattle.ledger.specs.declared.refusal.Refusal.TheVariants.{NoRecord, OutOfRange, RecordInUse, StaleTicket, Committed as CommittedR, Aborted as AbortedR, ClockSpent, TickBack}
use Rattle.ledger.specs.Time.{stamp, site_of, pseudo, is_spent, spent_at}
use Rattle.ledger.specs.Records.{clock_at, record_at, standing_of, is_free}
use Rattle.ledger.specs.Refusals.{first, when}

-- an action's record number and creation
abbrev pub Ticket : Type 0
Ticket = ℕ × ℕ

abbrev pub record_check : ℕ → Option Refusal
record_check r = when (r == 0 || nat_lt 64 r) NoRecord

abbrev pub site_check : ℕ → Option Refusal
site_check site = when (nat_lt 15 site) OutOfRange

abbrev pub lifetime_check : ℕ → Option Refusal
lifetime_check lifetime = when (nat_lt lifetime 2 || nat_lt 1048576 lifetime) OutOfRange

abbrev pub spent_check : List ℕ → ℕ → Option Refusal
spent_check clocks site = when (is_spent (clock_at clocks site)) ClockSpent

abbrev pub standing_check : Standing → Option Refusal
standing_check Open = None
standing_check Committed = Some CommittedR
standing_check Aborted = Some AbortedR

abbrev pub use_check : List ℕ → ℕ → Option CommitRecord → Option Refusal
use_check clocks creation None = Some StaleTicket
use_check clocks creation (Some u) = cond (u.creation == creation) (standing_check (standing_of clocks u)) (Some StaleTicket)

-- a record from 1 to 64, its ticket, and an open action
abbrev pub ticket_check : List (Option CommitRecord) → List ℕ → Ticket → Option Refusal
ticket_check records clocks t = first (record_check t.0) (use_check clocks t.1 (record_at records t.0))

-- an open action whose site's clock is not spent
abbrev pub action_check : List (Option CommitRecord) → List ℕ → Ticket → Option Refusal
action_check records clocks t = first (ticket_check records clocks t) (spent_check clocks (site_of t.1))

-- a site from 0 to 15 whose clock is not spent
abbrev pub glance_check : List ℕ → ℕ → Option Refusal
glance_check clocks site = first (site_check site) (spent_check clocks site)

abbrev pub begin_check : List (Option CommitRecord) → List ℕ → ℕ → ℕ → ℕ → Option Refusal
begin_check records clocks r site lifetime =
    first (record_check r) (first (site_check site) (first (lifetime_check lifetime)
    (first (when (not (is_free clocks (record_at records r))) RecordInUse) (spent_check clocks site))))

abbrev pub tick_check : List ℕ → ℕ → ℕ → Option Refusal
tick_check clocks site clock = first (site_check site) (when (nat_le clock (clock_at clocks site) || nat_le spent_at clock) TickBack)

-- the pseudo-time that a read or an update of an action uses, and the one that a glance uses
abbrev pub time_of : List ℕ → ℕ → ℕ
time_of clocks creation = pseudo creation (stamp (clock_at clocks (site_of creation)) (site_of creation))

abbrev pub glance_time : List ℕ → ℕ → ℕ
glance_time clocks site = pseudo (stamp (clock_at clocks site) site) 0
