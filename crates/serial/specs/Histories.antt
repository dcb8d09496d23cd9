-- Histories: the calls on a register and their answers, and what these tell by themselves.
use Rattle.std.specs.Prelude.{◌≡◌, ℕ, ◌+◌, ◌<◌, ◌≤◌, Bool, true, false, cond, ◌||◌, List, [], ◌∷◌, replicate, Some, None, Option, ◌==◌}
use Rattle.history.specs.declared.item.Item.{Item}
use Rattle.history.specs.Members.{◌∈◌}
use Rattle.history.specs.Meaning.{Meaning, Sound, chain_of, objects_of}
use Rattle.ledger.specs.declared.call.Call.{Call}
use Rattle.ledger.specs.declared.call.Call.TheVariants.{Begin, Read, Update, Commit, Abort, Glance, Tick, Settle, Standing}
use Rattle.ledger.specs.declared.call.Answer.{Answer}
use Rattle.ledger.specs.declared.call.Answer.TheVariants.{Began, Value, Wait, Done, Settled, Stands, Refused}
use Rattle.ledger.specs.Time.{stamp, site_of, clock_of, pseudo, creation_of, spent_at}
use Rattle.register.specs.State.{State}
use Rattle.ledger.specs.Checks.{Ticket}
use Rattle.register.specs.Calls.{Step}

-- An event is a call with its answer.
pub record Event (V : Type 0) : Type 0 where
  pub call : Call V
  pub answer : Answer V

-- A history is every event since the start, the newest first.
abbrev pub History : Type 0 → Type 0
History V = List (Event V)

-- What an event did

pub data Deed (V : Type 0) : Type 0 where
  -- an action began at a site
  begun : (site : ℕ) → Deed V
  -- an action's read of an object gave a value
  got : Ticket → (object : ℕ) → V → Deed V
  -- an action's update of an object to a value was accepted
  wrote : Ticket → (object : ℕ) → V → Deed V
  -- a glance at a site gave an object's value
  glanced : (site object : ℕ) → V → Deed V
  -- a site's clock was set
  ticked : (site clock : ℕ) → Deed V
  -- an action committed
  committed : Ticket → Deed V
  -- nothing that the order speaks of: what was refused or told to wait, aborts, settlings and questions of standing
  no_deed : Deed V

abbrev pub began : {V : Type 0} → Answer V → Bool
began (Began t) = true
began (Value v) = false
began (Wait r) = false
began Done = false
began (Settled n) = false
began (Stands w n) = false
began (Refused why) = false

abbrev pub done : {V : Type 0} → Answer V → Bool
done (Began t) = false
done (Value v) = false
done (Wait r) = false
done Done = true
done (Settled n) = false
done (Stands w n) = false
done (Refused why) = false

abbrev pub value_in : {V : Type 0} → Answer V → Option V
value_in (Began t) = None
value_in (Value v) = Some v
value_in (Wait r) = None
value_in Done = None
value_in (Settled n) = None
value_in (Stands w n) = None
value_in (Refused why) = None

abbrev pub deed : {V : Type 0} → Call V → Answer V → Deed V
deed (Begin r site lifetime) a = cond (began a) (begun site) no_deed
deed (Read t o) a = elim (value_in a) [ Some v ↦ got t o v | None ↦ no_deed ]
deed (Update t o v) a = cond (done a) (wrote t o v) no_deed
deed (Commit t) a = cond (done a) (committed t) no_deed
deed (Abort t) a = no_deed
deed (Glance site o) a = elim (value_in a) [ Some v ↦ glanced site o v | None ↦ no_deed ]
deed (Tick site clock) a = cond (done a) (ticked site clock) no_deed
deed (Settle o) a = no_deed
deed (Standing r) a = no_deed

abbrev pub deed_of : {V : Type 0} → Event V → Deed V
deed_of e = deed e.call e.answer

-- Clocks, told by the calls: every site's stands at c at first, a tick sets it, and each timestamp taken moves it on by one.
-- A begin and a glance take one at their site; a read and an update at the site of their action's creation.

abbrev pub moved : {V : Type 0} → Deed V → ℕ → ℕ → ℕ
moved (begun s) site now = cond (s == site) (now + 1) now
moved (got t o v) site now = cond (site_of t.1 == site) (now + 1) now
moved (wrote t o v) site now = cond (site_of t.1 == site) (now + 1) now
moved (glanced s o v) site now = cond (s == site) (now + 1) now
moved (ticked s clock) site now = cond (s == site) clock now
moved (committed t) site now = now
moved no_deed site now = now

-- a site's clock after a history
abbrev pub clock_after : {V : Type 0} → ℕ → History V → ℕ → ℕ
clock_after c [] site = c
clock_after c (e ∷ older) site = moved (deed_of e) site (clock_after c older site)

-- Accesses: the reads and glances that gave a value, and the updates that were accepted

pub data Effect (V : Type 0) : Type 0 where
  gave : V → Effect V
  took : V → Effect V

-- `creation` names the action, or the glance; `time` is the pseudo-time
pub record Access (V : Type 0) : Type 0 where
  pub object : ℕ
  pub creation : ℕ
  pub time : ℕ
  pub glance : Bool
  pub effect : Effect V

-- an action's pseudo-time, when its site's clock stands at `clock`
abbrev pub select : ℕ → ℕ → ℕ
select creation clock = pseudo creation (stamp clock (site_of creation))

-- a deed's access, put before older ones, where `clock` tells each site's clock before the deed
abbrev pub accessed : {V : Type 0} → (ℕ → ℕ) → Deed V → List (Access V) → List (Access V)
accessed clock (begun s) older = older
accessed clock (got t o v) older =
    record { object = o; creation = t.1; time = select t.1 (clock (site_of t.1)); glance = false; effect = gave v } ∷ older
accessed clock (wrote t o v) older =
    record { object = o; creation = t.1; time = select t.1 (clock (site_of t.1)); glance = false; effect = took v } ∷ older
accessed clock (glanced s o v) older =
    record { object = o; creation = stamp (clock s) s; time = pseudo (stamp (clock s) s) 0; glance = true; effect = gave v } ∷ older
accessed clock (ticked s k) older = older
accessed clock (committed t) older = older
accessed clock no_deed older = older

-- a history's accesses, the newest first
abbrev pub accesses : {V : Type 0} → ℕ → History V → List (Access V)
accesses c [] = []
accesses c (e ∷ older) = accessed (clock_after c older) (deed_of e) (accesses c older)

-- The actions that committed, by creation

abbrev pub commits : {V : Type 0} → Deed V → ℕ → Bool
commits (begun s) creation = false
commits (got t o v) creation = false
commits (wrote t o v) creation = false
commits (glanced s o v) creation = false
commits (ticked s k) creation = false
commits (committed t) creation = t.1 == creation
commits no_deed creation = false

abbrev pub has_committed : {V : Type 0} → History V → ℕ → Bool
has_committed [] creation = false
has_committed (e ∷ older) creation = commits (deed_of e) creation || has_committed older creation

-- States with their histories

-- What a register asks of its first clock c and of the store that it is given: a clock from 1 on that is not spent,
-- versions alone, and every span over before the clock's first timestamp.
pub record Fit (c : ℕ) (m : Meaning) : Type 0 where
  pub from_one : 1 ≤ c
  pub unspent : c < spent_at
  pub no_token : (o : ℕ) → o < objects_of m → (x : Item) → x ∈ chain_of m o → x.mark ≡ 0
  pub past : (o : ℕ) → o < objects_of m → (x : Item) → x ∈ chain_of m o → clock_of (creation_of x.«end») < c

-- a register at first: its store, 64 records that nobody has, and 16 clocks at c
abbrev pub started : Bool → ℕ → Meaning → State
started fit c m = record { fit = fit; store = m; records = replicate 64 None; clocks = replicate 16 c }

module _ {V : Type 0} (form : V → ℕ) (parse : ℕ → Option V) (c : ℕ) (m : Meaning) where
  -- The states that calls lead to, each with its history. A register may be fit at first only where what it asks holds;
  -- one that is not fit refuses every call.
  pub data Reached : History V → State → Type 0 where
    start : (fit : Bool) → Sound m → (fit ≡ true → Fit c m) → Reached [] (started fit c m)
    call : {h : History V} {s t : State} {e : Event V}
        → Reached h s → Sound t.store → Step form parse s e.call e.answer t → Reached (e ∷ h) t
