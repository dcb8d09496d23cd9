-- What a register holds.
use Rattle.std.specs.Prelude.{ℕ, Bool, List, [], ◌∷◌, Option}
use Rattle.history.specs.declared.item.Item.{Item}
use Rattle.history.specs.Meaning.{Meaning, Op}
use Rattle.ledger.specs.declared.record.CommitRecord.{CommitRecord}

pub record State : Type 0 where
  pub fit : Bool
  pub store : Meaning
  pub records : List (Option CommitRecord)
  pub clocks : List ℕ

-- the part of a state that calls change, besides a store's rooms and levels
pub record Contents : Type 0 where
  pub chains : List (List Item)
  pub image : List ℕ
  pub records : List (Option CommitRecord)
  pub clocks : List ℕ

abbrev pub contents : State → Contents
contents s = record { chains = s.store.chains; image = s.store.image; records = s.records; clocks = s.clocks }

-- the caller's bytes after operations on an object, one after another
abbrev pub image_from : (List ℕ → ℕ → Op → List ℕ) → List ℕ → ℕ → List Op → List ℕ
image_from writes bs o [] = bs
image_from writes bs o (op ∷ ops) = image_from writes (writes bs o op) o ops

abbrev pub image_after : Meaning → ℕ → List Op → List ℕ
image_after m o ops = image_from m.writes m.image o ops
