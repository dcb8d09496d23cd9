-- What holds of every state that calls lead to, told over functions and membership alone.
use Rattle.std.proofs.Common.{◌≡◌, ℕ, suc, ◌+◌, ◌*◌, ◌/◌, ◌%◌, ◌<◌, ◌≤◌, Bool, true, false, ◌⊎◌, List, [], ◌∷◌, length, Some, Option}
use Rattle.history.specs.declared.item.Item.{Item}
use Rattle.ledger.specs.declared.record.Standing.{Standing}
use Rattle.ledger.specs.declared.record.Standing.TheVariants.{Open, Committed, Aborted}
use Rattle.ledger.specs.declared.record.CommitRecord.{CommitRecord}
use Rattle.history.specs.Members.{◌∈◌}
use Rattle.serial.specs.Histories.{Access, gave, took}

-- what the start settles: values' forms, the clocks' first, the objects, and each one's last version
pub record Setting (V : Type 0) : Type 0 where
  pub form : V → ℕ
  pub parse : ℕ → Option V
  pub c : ℕ
  pub n : ℕ
  pub initial : ℕ → ℕ
  pub last : ℕ → ℕ

pub record World (V : Type 0) : Type 0 where
  pub acc : List (Access V)
  pub done : ℕ → Bool
  pub chain : ℕ → List Item
  pub rec : ℕ → Option CommitRecord
  pub clk : ℕ → ℕ

abbrev pub OpenAt : (ℕ → ℕ) → CommitRecord → Type 0
OpenAt κ u = (u.standing ≡ Open) × (κ (u.creation % 16) < u.expiry)

abbrev pub Alive : {V : Type 0} → World V → ℕ → Type 0
Alive w cr = (i : ℕ) × (u : CommitRecord) × (w.rec i ≡ Some u) × (u.creation ≡ cr) × OpenAt w.clk u

abbrev pub Lives : {V : Type 0} → World V → ℕ → Type 0
Lives w cr = (w.done cr ≡ true) ⊎ Alive w cr

abbrev pub is_committed : Standing → Bool
is_committed Open = false
is_committed Committed = true
is_committed Aborted = false

abbrev pub Falling : {V : Type 0} → List (Access V) → Type 0
Falling [] = Unit {0}
Falling {V} (a ∷ older) = ((b : Access V) → b ∈ older → b.creation ≡ a.creation → b.time < a.time) × Falling older

-- a timestamp that its site has given out
abbrev pub Given : ℕ → (ℕ → ℕ) → ℕ → Type 0
Given c κ cr = (c * 16 ≤ cr) × (cr / 16 < κ (cr % 16))

pub record Timed {V : Type 0} (c : ℕ) (κ : ℕ → ℕ) (a : Access V) : Type 0 where
  pub from : c * 16 ≤ a.creation
  pub old : a.creation / 16 < κ (a.creation % 16)
  pub names : a.time / 4294967296 ≡ a.creation
  pub before : a.time < a.creation * 4294967296 + (κ (a.creation % 16) * 16 + a.creation % 16)

module _ {V : Type 0} (σ : Setting V) where
  open σ use {form, parse, c, n, initial, last}

  -- an item comes from the start, or from an update
  pub record FromStart (o : ℕ) (x : Item) : Type 0 where
    pub version : x.mark ≡ 0
    pub by : x.start ≤ last o
    pub found : x.start ≡ last o → x.number ≡ initial o
    pub known : o < n

  pub record Owner (w : World V) (a : Access V) (x : Item) : Type 0 where
    pub place : ℕ
    pub its : CommitRecord
    pub marked : x.mark ≡ suc place
    pub used : w.rec place ≡ Some its
    pub same : its.creation ≡ a.creation

  pub record FromUpdate (w : World V) (o : ℕ) (x : Item) : Type 0 where
    pub update : Access V
    pub value : V
    pub made : update ∈ w.acc
    pub updates : update.effect ≡ took value
    pub object : update.object ≡ o
    pub time : update.time ≡ x.start
    pub number : x.number ≡ form value
    pub standing : ((x.mark ≡ 0) × (w.done update.creation ≡ true)) ⊎ Owner w update x

  pub record Held (w : World V) (o start number : ℕ) : Type 0 where
    pub item : Item
    pub inside : item ∈ w.chain o
    pub starts : item.start ≡ start
    pub has : item.number ≡ number

  pub record Wrote (w : World V) (a : Access V) (v : V) (at : ℕ) : Type 0 where
    pub update : Access V
    pub made : update ∈ w.acc
    pub updates : update.effect ≡ took v
    pub object : update.object ≡ a.object
    pub time : update.time ≡ at
    pub below : at < a.time
    pub visible : (update.creation ≡ a.creation) ⊎ (w.done update.creation ≡ true)

  pub record Covering (w : World V) (a : Access V) (at : ℕ) : Type 0 where
    pub item : Item
    pub inside : item ∈ w.chain a.object
    pub starts : item.start ≡ at
    pub reaches : a.time ≤ item.«end»

  -- where an answered read took its value
  pub record Source (w : World V) (a : Access V) (v : V) : Type 0 where
    pub at : ℕ
    pub whence : ((parse (initial a.object) ≡ Some v) × (at < c * 68719476736)) ⊎ Wrote w a v at
    pub still : Covering w a at ⊎ ((at / 4294967296 ≡ a.creation) × (Alive w a.creation → ⊥))
    pub apart : (b : Access V) (u : V) → b ∈ w.acc → b.effect ≡ took u → b.object ≡ a.object
        → (Lives w b.creation) ⊎ (b.creation ≡ a.creation) → (b.time ≤ at) ⊎ (a.time < b.time)

  -- the tokens of one record, among so many places
  pub record Tally (w : World V) (i tokens : ℕ) : Type 0 where
    pub places : List (ℕ × ℕ)
    pub few : length places ≤ tokens
    pub all : (o : ℕ) (x : Item) → x ∈ w.chain o → x.mark ≡ suc i → (o, x.start) ∈ places

  pub record Inv (w : World V) : Type 0 where
    pub clocks_from : (site : ℕ) → site < 16 → c ≤ w.clk site
    pub clocks_to : (site : ℕ) → site < 16 → w.clk site ≤ 134217728
    pub timed : (a : Access V) → a ∈ w.acc → Timed c w.clk a
    pub falls : Falling w.acc
    pub com_old : (cr : ℕ) → w.done cr ≡ true → Given c w.clk cr
    pub used_old : (i : ℕ) (u : CommitRecord) → w.rec i ≡ Some u → Given c w.clk u.creation
    pub used_one : (i j : ℕ) (u v : CommitRecord) → w.rec i ≡ Some u → w.rec j ≡ Some v → u.creation ≡ v.creation → i ≡ j
    pub used_com : (i : ℕ) (u : CommitRecord) → w.rec i ≡ Some u → w.done u.creation ≡ is_committed u.standing
    pub items : (o : ℕ) (x : Item) → x ∈ w.chain o → FromStart o x ⊎ FromUpdate w o x
    pub kept : (a : Access V) (v : V) → a ∈ w.acc → a.effect ≡ took v → Lives w a.creation → Held w a.object a.time (form v)
    pub kept_first : (o : ℕ) → o < n → Held w o (last o) (initial o)
    pub last_early : (o : ℕ) → o < n → last o < c * 68719476736
    pub tally : (i : ℕ) (u : CommitRecord) → w.rec i ≡ Some u → Tally w i u.tokens
    pub reads : (a : Access V) (v : V) → a ∈ w.acc → a.effect ≡ gave v → Source w a v
