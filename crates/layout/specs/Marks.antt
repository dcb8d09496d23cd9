-- Marks of the records that walks have met.
use Rattle.std.specs.Prelude.{◌≡◌, ℕ, ◌+◌, ◌<◌, ◌≤◌, Bool, true, false, cond, List, slice_index_or}
use Rattle.layout.specs.Layout.{path, whole, times, records_in, objects_in, free_in, uses, each_below, threaded}

abbrev pub tick : List Bool → ℕ → ℕ
tick ss y = cond (slice_index_or ss y false) 1 0

-- the walk from a record has marked each record of its chain, none of them twice,
-- or the chain does not end in the table, or it meets a record that is marked
abbrev pub Marked : List ℕ → ℕ → List Bool → List Bool → Bool → Type 0
Marked bs from ss ts true = (whole bs from ≡ true) × ((y : ℕ) → tick ts y ≡ tick ss y + times y (path bs from))
Marked bs from ss ts false = whole bs from ≡ true → (y : ℕ) × (0 < y) × (y ≤ records_in bs) × (2 ≤ tick ss y + times y (path bs from))

-- every chain is marked, or some record is in none or in two
abbrev pub AllMarked : List ℕ → List Bool → Bool → Type 0
AllMarked bs ts true = (each_below (objects_in bs) (λ o. whole bs (o + 1)) ≡ true) × (whole bs (free_in bs) ≡ true) × ((y : ℕ) → tick ts y ≡ uses bs y)
AllMarked bs ts false = threaded bs ≡ false
