-- One object's history as a list of items, and what each operation of a store does to it.
use Rattle.std.specs.Prelude.{◌≡◌, ℕ, zero, suc, ◌^◌, ◌<◌, ◌≤◌, max, Bool, true, false, cond, not, ◌&&◌, List, [], ◌∷◌, map, Some, None, Option, ◌==◌, nat_le, nat_lt}
use Rattle.history.specs.declared.item.Item.{Item}

-- the items that pass a test, in order
abbrev pub keep : (Item → Bool) → List Item → List Item
keep t [] = []
keep t (x ∷ xs) = cond (t x) (x ∷ keep t xs) (keep t xs)

-- whether some item passes a test
abbrev pub some_item : (Item → Bool) → List Item → Bool
some_item t [] = false
some_item t (x ∷ xs) = cond (t x) true (some_item t xs)

abbrev pub last_item : List Item → Option Item
last_item [] = None
last_item (x ∷ []) = Some x
last_item (x ∷ (y ∷ ys)) = last_item (y ∷ ys)

abbrev pub nth_item : List Item → ℕ → Option Item
nth_item [] k = None
nth_item (x ∷ xs) zero = Some x
nth_item (x ∷ xs) (suc k) = nth_item xs k

abbrev pub starts_by : ℕ → Item → Bool
starts_by p x = nat_le x.start p

abbrev pub has_start : ℕ → Item → Bool
has_start s x = x.start == s

-- p lies in the item's span
abbrev pub covers : ℕ → Item → Bool
covers p x = nat_le x.start p && nat_le p x.«end»

-- the item starts after s and not after p
abbrev pub starts_within : ℕ → ℕ → Item → Bool
starts_within s p x = nat_lt s x.start && nat_le x.start p

abbrev pub is_version : Item → Bool
is_version x = x.mark == 0

-- two items are one item
abbrev pub same_item : Item → Item → Bool
same_item x y = x.start == y.start && (x.«end» == y.«end» && (x.mark == y.mark && x.number == y.number))

-- the chain has the item
abbrev pub has_item : Item → List Item → Bool
has_item x xs = some_item (same_item x) xs

-- the last item whose start is at most p
abbrev pub find_in : List Item → ℕ → Option Item
find_in xs p = last_item (keep (starts_by p) xs)

abbrev pub raise : ℕ → Item → Item
raise p x = record { start = x.start; «end» = max x.«end» p; mark = x.mark; number = x.number }

abbrev pub seal_item : Item → Item
seal_item x = record { start = x.start; «end» = x.«end»; mark = 0; number = x.number }

-- the item with its end raised to p, if its start is s
abbrev pub extends : ℕ → ℕ → Item → Item
extends s p x = cond (has_start s x) (raise p x) x

-- the item as a version, if its start is s
abbrev pub seals : ℕ → Item → Item
seals s x = cond (has_start s x) (seal_item x) x

abbrev pub extend_in : List Item → ℕ → ℕ → List Item
extend_in xs s p = map (extends s p) xs

abbrev pub seal_in : List Item → ℕ → List Item
seal_in xs s = map (seals s) xs

abbrev pub drop_in : List Item → ℕ → List Item
drop_in xs s = keep (λ x. not (has_start s x)) xs

-- the item at its place in the order of starts
abbrev pub put_in : List Item → Item → List Item
put_in [] new = new ∷ []
put_in (x ∷ xs) new = cond (nat_lt new.start x.start) (new ∷ (x ∷ xs)) (x ∷ put_in xs new)

-- an item of one pseudo-time, as put adds it
abbrev pub fresh_item : ℕ → ℕ → ℕ → Item
fresh_item p mark n = record { start = p; «end» = p; mark = mark; number = n }

-- an item by itself: its span ends not before its start and below 2 ^ 63, and its mark is at most 64
abbrev pub Spanned : Item → Type 0
Spanned x = (x.start ≤ x.«end») × (x.«end» < 2 ^ 63) × (x.mark ≤ 64)

-- the first item, if there is one, starts after t
abbrev pub Beyond : ℕ → List Item → Type 0
Beyond t [] = Unit {0}
Beyond t (y ∷ ys) = t < y.start

-- every end lies below the next start
abbrev pub Ascends : List Item → Type 0
Ascends [] = Unit {0}
Ascends (x ∷ xs) = Spanned x × Beyond x.«end» xs × Ascends xs

-- a history: ascending, from a version with start 0 on
abbrev pub Lawful : List Item → Type 0
Lawful [] = ⊥
Lawful (x ∷ xs) = (x.start ≡ 0) × (x.mark ≡ 0) × Ascends (x ∷ xs)
