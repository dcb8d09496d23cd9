-- Histories laid out in bytes: a header of 32 bytes, and records of 32 bytes that are chained by their numbers.
use Rattle.std.specs.Prelude.{ℕ, zero, suc, ◌+◌, ◌*◌, ◌^◌, Bool, true, false, cond, ◌&&◌, List, [], ◌∷◌, map, length, Some, None, sum_by, count_by, Option, ◌==◌, nat_eq, nat_le, nat_lt}
use Rattle.std.specs.List.{range_with_len, list_all}
use Rattle.history.specs.declared.item.Item.{Item}
use Rattle.layout.specs.declared.record.Record.{Record}
use Rattle.layout.specs.Field.{num}

-- the header: the objects, the records, and the first free record
abbrev pub objects_in : List ℕ → ℕ
objects_in bs = num bs 4 2

abbrev pub records_in : List ℕ → ℕ
records_in bs = num bs 6 2

abbrev pub free_in : List ℕ → ℕ
free_in bs = num bs 8 2

-- record k: an item, and the next record of its chain
abbrev pub item_at : List ℕ → ℕ → Item
item_at bs k =
    record { start = num bs (32 * k) 8; «end» = num bs (32 * k + 8) 8; mark = num bs (32 * k + 18) 1; number = num bs (32 * k + 24) 8 }

abbrev pub next_at : List ℕ → ℕ → ℕ
next_at bs k = num bs (32 * k + 16) 2

abbrev pub pad_at : List ℕ → ℕ → ℕ
pad_at bs k = num bs (32 * k + 19) 5

-- record k, if it is not the header and lies wholly in the bytes
abbrev pub has_record : List ℕ → ℕ → Bool
has_record bs k = nat_lt 0 k && nat_le (32 * k + 32) (length bs)

abbrev pub record_in : List ℕ → ℕ → Option Record
record_in bs k = cond (has_record bs k) (Some (record { item = item_at bs k; next = next_at bs k })) None

-- the records of the chain that begins at k, in at most `fuel` steps
abbrev pub walk : List ℕ → ℕ → ℕ → List ℕ
walk bs zero k = []
walk bs (suc fuel) k = cond (k == 0) [] (k ∷ walk bs fuel (next_at bs k))

-- whether that chain ends, and stays among the first m records
abbrev pub ends : List ℕ → ℕ → ℕ → ℕ → Bool
ends bs m zero k = k == 0
ends bs m (suc fuel) k = cond (k == 0) true (nat_le k m && ends bs m fuel (next_at bs k))

abbrev pub path : List ℕ → ℕ → List ℕ
path bs k = walk bs (records_in bs) k

abbrev pub whole : List ℕ → ℕ → Bool
whole bs k = ends bs (records_in bs) (records_in bs) k

-- the items of the chain that begins at k
abbrev pub items : List ℕ → ℕ → List Item
items bs k = map (item_at bs) (path bs k)

-- how often record k occurs in a chain, and in all of them
abbrev pub times : ℕ → List ℕ → ℕ
times k ns = count_by (nat_eq k) ns

abbrev pub paths : List ℕ → List (List ℕ)
paths bs = map (λ o. path bs (o + 1)) (range_with_len 0 (objects_in bs))

abbrev pub uses : List ℕ → ℕ → ℕ
uses bs k = times k (path bs (free_in bs)) + sum_by (times k) (paths bs)

-- a test of each number below n
abbrev pub each_below : ℕ → (ℕ → Bool) → Bool
each_below n t = list_all t (range_with_len 0 n)

abbrev pub vacant : Item → Bool
vacant x = x.start == 0 && x.«end» == 0 && x.mark == 0 && x.number == 0

abbrev pub blank : List ℕ → ℕ → Bool
blank bs k = vacant (item_at bs k)

-- the rules of a history
abbrev pub spanned : Item → Bool
spanned x = nat_le x.start x.«end» && nat_lt x.«end» (2 ^ 63) && nat_le x.mark 64

abbrev pub beyond : ℕ → List Item → Bool
beyond t [] = true
beyond t (y ∷ ys) = nat_lt t y.start

abbrev pub ascends : List Item → Bool
ascends [] = true
ascends (x ∷ xs) = spanned x && beyond x.«end» xs && ascends xs

abbrev pub history : List Item → Bool
history [] = false
history (x ∷ xs) = x.start == 0 && x.mark == 0 && ascends (x ∷ xs)

-- "PTH1"
abbrev pub magic : List ℕ
magic = 0x50 ∷ 0x54 ∷ 0x48 ∷ 0x31 ∷ []

-- the size of a table: 1 to 128 objects n, at most 2047 records m and one at least for each object
abbrev pub sized : ℕ → ℕ → ℕ → Bool
sized n m size = nat_le 1 n && nat_le n 128 && nat_le n m && nat_le m 2047 && size == 32 * (m + 1)

-- the magic bytes, a size, and zeros
abbrev pub header : List ℕ → Bool
header bs = (num bs 0 4 == 0x50544831) && sized (objects_in bs) (records_in bs) (length bs) && num bs 10 22 == 0

-- every chain ends in the table, and each record is in one of them
abbrev pub threaded : List ℕ → Bool
threaded bs =
    each_below (objects_in bs) (λ o. whole bs (o + 1))
    && whole bs (free_in bs)
    && each_below (records_in bs) (λ k. nat_eq (uses bs (k + 1)) 1)

unfoldable pub lawful : List ℕ → Bool
lawful bs =
    header bs
    && each_below (records_in bs) (λ k. nat_eq (pad_at bs (k + 1)) 0)
    && threaded bs
    && list_all (blank bs) (path bs (free_in bs))
    && each_below (objects_in bs) (λ o. history (items bs (o + 1)))
