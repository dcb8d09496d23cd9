-- The serial law: whatever calls were made, all went as if the committed actions and the glances
-- had run one after another, in the order of their creations.
use Rattle.std.specs.Prelude.{◌≡◌, ℕ, zero, suc, ◌<◌, ◌≤◌, Bool, true, cond, ◌&&◌, ◌||◌, ◌⊎◌, List, [], ◌∷◌, ◌++◌, Some, None, Option, ◌==◌}
use Rattle.history.specs.declared.item.Item.{Item}
use Rattle.history.specs.Members.{◌∈◌}
use Rattle.history.specs.Chain.{keep, last_item, is_version}
use Rattle.history.specs.Meaning.{Meaning, chain_of, objects_of}
use Rattle.ledger.specs.Time.{creation_of}
use Rattle.register.specs.State.{State}
use Rattle.serial.specs.Histories.{History, Access, Effect, gave, took, accesses, has_committed, Reached}

-- A kind of values by its forms, the first clock c, and the number that each object had at first.
module _ {V : Type 0} (form : V → ℕ) (parse : ℕ → Option V) (c : ℕ) (initial : ℕ → ℕ) where
  -- Every read gives the latest update below it

  -- A read counts an update by v, if it is of the read's object, at a lower pseudo-time,
  -- and by the reader's own action or by one that the history commits, be it after the read.
  pub record Counts (h : History V) (reader : Access V) (a : Access V) (v : V) : Type 0 where
    pub made : a ∈ accesses c h
    pub updates : a.effect ≡ took v
    pub same_object : a.object ≡ reader.object
    pub below : a.time < reader.time
    pub visible : (a.creation ≡ reader.creation) ⊎ (has_committed h a.creation ≡ true)

  -- v is the value of the greatest update that counts
  pub record Latest (h : History V) (reader : Access V) (v : V) : Type 0 where
    pub update : Access V
    pub counts : Counts h reader update v
    pub greatest : (a : Access V) (w : V) → Counts h reader a w → a.time ≤ update.time

  -- none counts, and v is what the object had at first
  pub record Untouched (h : History V) (reader : Access V) (v : V) : Type 0 where
    pub none : (a : Access V) (w : V) → Counts h reader a w → ⊥
    pub found : parse (initial reader.object) ≡ Some v

  -- of every action, committed or not, and of every glance
  abbrev pub ReadsLatest : History V → Type 0
  ReadsLatest h = (a : Access V) (v : V) → a ∈ accesses c h → a.effect ≡ gave v → Latest h a v ⊎ Untouched h a v

  -- The serial run: a table of the objects' numbers, and the committed actions one after another, by creation.
  -- A glance changes nothing, so it has no turn of its own.

  abbrev pub written : Effect V → ℕ → ℕ
  written (gave v) n = n
  written (took v) n = form v

  -- the table after those of the accesses, newest first, that the action created at t made
  abbrev pub run_one : ℕ → List (Access V) → (ℕ → ℕ) → ℕ → ℕ
  run_one t [] table o = table o
  run_one t (a ∷ older) table o =
      cond (a.creation == t && a.object == o) (written a.effect (run_one t older table o)) (run_one t older table o)

  -- the table once every committed action created before t has run
  abbrev pub table_before : History V → ℕ → ℕ → ℕ
  table_before h zero = initial
  table_before h (suc t) =
      cond (has_committed h t) (run_one t (accesses c h) (table_before h t)) (table_before h t)

  -- A read of a committed action, and a glance, gave what it finds in the serial run:
  -- what those created before it left, and then its own action up to it.
  abbrev pub RunsAlike : History V → Type 0
  RunsAlike h =
      (later older : List (Access V)) (a : Access V) (v : V)
      → accesses c h ≡ later ++ (a ∷ older)
      → a.effect ≡ gave v
      → ((has_committed h a.creation ≡ true) ⊎ (a.glance ≡ true))
      → parse (run_one a.creation older (table_before h a.creation) a.object) ≡ Some v

  -- an item counts at the end if it is a version, or a token of an action that committed
  abbrev pub stands_committed : History V → Item → Bool
  stands_committed h x = is_version x || has_committed h (creation_of x.start)

  abbrev pub last_committed : History V → List Item → Option Item
  last_committed h xs = last_item (keep (stands_committed h) xs)

  -- The last such item of each object has the number that the whole serial run leaves:
  -- up to any t from 2 ^ 31 on, since every creation is below that.
  abbrev pub EndsAlike : History V → State → Type 0
  EndsAlike h s =
      (t : ℕ) → 2147483648 ≤ t
      → (o : ℕ) → o < objects_of s.store
      → (x : Item) × (last_committed h (chain_of s.store o) ≡ Some x) × (x.number ≡ table_before h t o)

  pub record SerialOrder (h : History V) (s : State) : Type 0 where
    pub reads_latest : ReadsLatest h
    pub runs_alike : RunsAlike h
    pub ends_alike : EndsAlike h s

-- What an object had at first: the number of its last version. (A store that a register finds not fit may hold tokens too.)

abbrev pub number_of : Option Item → ℕ
number_of None = 0
number_of (Some x) = x.number

abbrev pub found_at : Meaning → ℕ → ℕ
found_at m o = number_of (last_item (keep is_version (chain_of m o)))

-- The law: every state that calls lead to, with its history, is in serial order.
module _ {V : Type 0} (form : V → ℕ) (parse : ℕ → Option V) (c : ℕ) (m : Meaning) where
  abbrev pub SerialLaw : Type 0
  SerialLaw =
      (h : History V) (s : State) → Reached form parse c m h s → SerialOrder form parse c (found_at m) h s
