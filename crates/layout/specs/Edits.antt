-- What a write into record k, or into the header, makes of the bytes.
use Rattle.std.specs.Prelude.{◌≡◌, ℕ, ◌+◌, ◌*◌, ◌≤◌, List, length, ◌≢◌}
use Rattle.history.specs.declared.item.Item.{Item}
use Rattle.layout.specs.Field.{num, put_num}
use Rattle.layout.specs.Layout.{item_at, next_at, pad_at}

abbrev pub with_start : List ℕ → ℕ → ℕ → List ℕ
with_start bs k v = put_num bs (32 * k) 8 v

abbrev pub with_end : List ℕ → ℕ → ℕ → List ℕ
with_end bs k v = put_num bs (32 * k + 8) 8 v

abbrev pub with_next : List ℕ → ℕ → ℕ → List ℕ
with_next bs k v = put_num bs (32 * k + 16) 2 v

abbrev pub with_mark : List ℕ → ℕ → ℕ → List ℕ
with_mark bs k v = put_num bs (32 * k + 18) 1 v

abbrev pub with_number : List ℕ → ℕ → ℕ → List ℕ
with_number bs k v = put_num bs (32 * k + 24) 8 v

abbrev pub with_item : List ℕ → ℕ → Item → List ℕ
with_item bs k x = with_number (with_mark (with_end (with_start bs k x.start) k x.«end») k x.mark) k x.number

-- the header's first free record
abbrev pub with_free : List ℕ → ℕ → List ℕ
with_free bs v = put_num bs 8 2 v

-- an item with another end, and with another mark
abbrev pub ended : ℕ → Item → Item
ended v x = record { start = x.start; «end» = v; mark = x.mark; number = x.number }

abbrev pub marked : ℕ → Item → Item
marked v x = record { start = x.start; «end» = x.«end»; mark = v; number = x.number }

-- record k of cs holds the item and the next record, and all else is as in bs
pub record Changed (bs : List ℕ) (k : ℕ) (x : Item) (next : ℕ) (cs : List ℕ) : Type 0 where
  pub size : length cs ≡ length bs
  pub head : (from n : ℕ) → from + n ≤ 32 → num cs from n ≡ num bs from n
  pub pads : (j : ℕ) → pad_at cs j ≡ pad_at bs j
  pub items : (j : ℕ) → (j ≢ k) → item_at cs j ≡ item_at bs j
  pub nexts : (j : ℕ) → (j ≢ k) → next_at cs j ≡ next_at bs j
  pub item : item_at cs k ≡ x
  pub link : next_at cs k ≡ next

-- the header of cs has v as the first free record, and all else is as in bs
pub record Freed (bs : List ℕ) (v : ℕ) (cs : List ℕ) : Type 0 where
  pub size : length cs ≡ length bs
  pub before : (from n : ℕ) → from + n ≤ 8 → num cs from n ≡ num bs from n
  pub after : (from n : ℕ) → 10 ≤ from → num cs from n ≡ num bs from n
  pub first : num cs 8 2 ≡ v
