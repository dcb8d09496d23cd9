-- One token settled: a committed one is sealed, an aborted one is dropped, an open one stays.
use Rattle.std.specs.Prelude.{◌≡◌, ℕ, List, [], ◌∷◌, None, slice_set, Option, Ok, Err, Result}
use Rattle.history.specs.declared.item.Item.{Item}
use Rattle.history.specs.Chain.{seal_in, drop_in}
use Rattle.history.specs.Meaning.{Meaning, Op, chain_of, cause_of}
use Rattle.history.specs.Meaning.Op.{Seal, Drop}
use Rattle.ledger.specs.declared.record.Standing.{Standing}
use Rattle.ledger.specs.declared.record.Standing.TheVariants.{Open, Committed, Aborted}
use Rattle.ledger.specs.declared.record.CommitRecord.{CommitRecord}
use Rattle.register.specs.State.{State, image_after}
use Rattle.ledger.specs.Checks.{record_check}
use Rattle.ledger.specs.Records.{item_fate, lower_for}

-- a token that the store holds
pub record Held (m : Meaning) (o : ℕ) (x : Item) : Type 0 where
  pub recorded : record_check x.mark ≡ None
  pub seals : cause_of m o (Seal x.start) ≡ None
  pub drops : cause_of m o (Drop x.start) ≡ None

abbrev pub settled_chain : Standing → List Item → Item → List Item
settled_chain Open xs x = xs
settled_chain Committed xs x = seal_in xs x.start
settled_chain Aborted xs x = drop_in xs x.start

abbrev pub settled_records : Standing → List (Option CommitRecord) → Item → List (Option CommitRecord)
settled_records Open records x = records
settled_records Committed records x = lower_for records x
settled_records Aborted records x = lower_for records x

abbrev pub settled_ops : Standing → Item → List Op
settled_ops Open x = []
settled_ops Committed x = Seal x.start ∷ []
settled_ops Aborted x = Drop x.start ∷ []

-- operations on one object, from a state s to a state t: the object's chain and the records after them
pub record Leaves (s : State) (o : ℕ) (chain : List Item) (rs : List (Option CommitRecord)) (ops : List Op) (t : State) : Type 0 where
  pub chains : t.store.chains ≡ slice_set s.store.chains o chain
  pub image : t.store.image ≡ image_after s.store o ops
  pub writes : t.store.writes ≡ s.store.writes
  pub records : t.records ≡ rs
  pub clocks : t.clocks ≡ s.clocks
  pub fit : t.fit ≡ s.fit

-- an item settled by its fate f
pub record Settles (s : State) (o : ℕ) (x : Item) (f : Standing) (t : State) : Type 0 where
  pub fate_is : f ≡ item_fate s.records s.clocks x
  pub leaves : Leaves s o (settled_chain f (chain_of s.store o) x) (settled_records f s.records x) (settled_ops f x) t

-- an answer of which P holds, and no refusal
abbrev pub Gives : {A E : Type 0} → (A → Type 0) → Result A E → Type 0
Gives P (Ok a) = P a
Gives P (Err e) = ⊥
