-- What each operation of a store writes.
use Rattle.std.specs.Prelude.{ℕ, ◌+◌, ◌-◌, max, cond, List, [], ◌∷◌}
use Rattle.history.specs.declared.item.Item.{Item}
use Rattle.history.specs.Chain.{starts_by, fresh_item}
use Rattle.history.specs.Meaning.{Op}
use Rattle.history.specs.Meaning.Op.{Find, At, Extend, Put, Seal, Drop}
use Rattle.layout.specs.Edits.{with_item, with_next, with_end, with_mark, with_free}
use Rattle.layout.specs.Layout.{free_in, item_at, next_at, path}

abbrev pub blank_item : Item
blank_item = record { start = 0; «end» = 0; mark = 0; number = 0 }

-- record x gets the item and the next record, record a goes on to `after`, and `first` is the first free record
unfoldable pub relink : List ℕ → ℕ → ℕ → Item → ℕ → ℕ → ℕ → List ℕ
relink bs a x new next after first = with_free (with_next (with_next (with_item bs x new) x next) a after) first

-- the first free record x gets the item, and stands after record a in its chain
abbrev pub link : List ℕ → ℕ → ℕ → Item → List ℕ
link bs a x new = relink bs a x new (next_at bs a) x (next_at bs x)

-- record x, which stood after record a in its chain, is blank, and the first free one
abbrev pub unlink : List ℕ → ℕ → ℕ → List ℕ
unlink bs a x = relink bs a x blank_item (free_in bs) (next_at bs x) x

-- the last record of a list that starts at p or before; `a` stands before the list
abbrev pub last_by : List ℕ → ℕ → ℕ → List ℕ → ℕ
last_by bs p a [] = a
last_by bs p a (k ∷ ks) = cond (starts_by p (item_at bs k)) (last_by bs p k ks) a

-- the last record of an object's chain that starts at p or before: where an item starts at p, its record
abbrev pub record_by : List ℕ → ℕ → ℕ → ℕ
record_by bs o p = last_by bs p 0 (path bs (o + 1))

-- the bytes after an accepted operation on an object
unfoldable pub chained_writes : List ℕ → ℕ → Op → List ℕ
chained_writes bs o (Find p) = bs
chained_writes bs o At = bs
chained_writes bs o (Extend s p) = with_end bs (record_by bs o s) (max (item_at bs (record_by bs o s)).«end» p)
chained_writes bs o (Put p mark n) = link bs (record_by bs o p) (free_in bs) (fresh_item p mark n)
chained_writes bs o (Seal s) = with_mark bs (record_by bs o s) 0
chained_writes bs o (Drop s) = unlink bs (record_by bs o (s - 1)) (record_by bs o s)
