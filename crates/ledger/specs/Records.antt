-- Commit records and clocks, and the fate of tokens.
use Rattle.std.specs.Prelude.{ℕ, pred, ◌+◌, Bool, true, false, cond, not, ◌&&◌, List, ◌==◌, nat_le, slice_index, slice_index_or, slice_set, Some, None, Option}
use Rattle.history.specs.declared.item.Item.{Item}
use Rattle.history.specs.Chain.{is_version}
use Rattle.ledger.specs.declared.record.Standing.{Standing}
use Rattle.ledger.specs.declared.record.Standing.TheVariants.{Open, Committed, Aborted}
use Rattle.ledger.specs.declared.record.Event.{Event}
use Rattle.ledger.specs.declared.record.Event.TheVariants.{Commit, Abort, Expiry}
use Rattle.ledger.specs.declared.record.CommitRecord.{CommitRecord}
use Rattle.ledger.specs.Time.{stamp, site_of, creation_of}

abbrev pub clock_at : List ℕ → ℕ → ℕ
clock_at clocks site = slice_index clocks site

abbrev pub record_at : List (Option CommitRecord) → ℕ → Option CommitRecord
record_at records r = slice_index_or records (pred r) None

-- the standing after an event
abbrev pub next : Standing → Event → Standing
next Open Commit = Committed
next Open Abort = Aborted
next Open Expiry = Aborted
next Committed e = Committed
next Aborted e = Aborted

-- a record expires the moment its site's clock reaches the expiry
abbrev pub standing_of : List ℕ → CommitRecord → Standing
standing_of clocks u = cond (nat_le u.expiry (clock_at clocks (site_of u.creation))) (next u.standing Expiry) u.standing

abbrev pub is_open : Standing → Bool
is_open Open = true
is_open Committed = false
is_open Aborted = false

abbrev pub is_free : List ℕ → Option CommitRecord → Bool
is_free clocks None = true
is_free clocks (Some u) = not (is_open (standing_of clocks u)) && u.tokens == 0

-- a token's fate is the standing of the record that it belongs to; one that belongs to none counts as aborted
abbrev pub fate_under : List ℕ → Option CommitRecord → Item → Standing
fate_under clocks None x = Aborted
fate_under clocks (Some u) x = cond (creation_of x.start == u.creation) (standing_of clocks u) Aborted

abbrev pub fate : List (Option CommitRecord) → List ℕ → Item → Standing
fate records clocks x = fate_under clocks (record_at records x.mark) x

-- an item's fate, where a version counts as one that stays
abbrev pub item_fate : List (Option CommitRecord) → List ℕ → Item → Standing
item_fate records clocks x = cond (is_version x) Open (fate records clocks x)

-- one token less left to settle, never below 0
abbrev pub lower : CommitRecord → Option CommitRecord
lower u = Some (record { creation = u.creation; expiry = u.expiry; tokens = pred u.tokens; standing = u.standing })

abbrev pub lower_under : Option CommitRecord → Item → Option CommitRecord
lower_under None x = None
lower_under (Some u) x = cond (creation_of x.start == u.creation) (lower u) (Some u)

abbrev pub lower_for : List (Option CommitRecord) → Item → List (Option CommitRecord)
lower_for records x = slice_set records (pred x.mark) (lower_under (record_at records x.mark) x)

abbrev pub concluded : Event → Option CommitRecord → Option CommitRecord
concluded e None = None
concluded e (Some u) = Some (record { creation = u.creation; expiry = u.expiry; tokens = u.tokens; standing = next u.standing e })

abbrev pub one_token_more : Option CommitRecord → Option CommitRecord
one_token_more None = None
one_token_more (Some u) = Some (record { creation = u.creation; expiry = u.expiry; tokens = u.tokens + 1; standing = u.standing })

abbrev pub change_record : (Option CommitRecord → Option CommitRecord) → List (Option CommitRecord) → ℕ → List (Option CommitRecord)
change_record f records r = slice_set records (pred r) (f (record_at records r))

-- a record as an action gets it
abbrev pub opened : ℕ → ℕ → ℕ → Option CommitRecord
opened clock site lifetime =
    Some (record { creation = stamp clock site; expiry = clock + lifetime; tokens = 0; standing = Open })

abbrev pub take_stamp : List ℕ → ℕ → List ℕ
take_stamp clocks site = slice_set clocks site (clock_at clocks site + 1)
