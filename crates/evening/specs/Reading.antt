-- What is read of an object at a pseudo-time.
use Rattle.std.specs.Prelude.{◌≡◌, ℕ, Some, None, Ok, Err, Option, Result}
use Rattle.history.specs.declared.item.Item.{Item}
use Rattle.history.specs.Chain.{is_version}
use Rattle.history.specs.Meaning.{Meaning, FindAnswer}
use Rattle.evening.specs.declared.reading.Reading.{Reading}
use Rattle.evening.specs.declared.trouble.Trouble.{Trouble}
use Rattle.evening.specs.declared.trouble.Trouble.TheVariants.{Refused, NoForm}

-- the value that the kind reads from the item found, and whether that is a version; else why there is none
abbrev pub Reads : {V : Type 0} → (ℕ → Option V) → Meaning → ℕ → ℕ → Result (Reading V) Trouble → Type 0
Reads parse m o p (Ok r) = (x : Item) × FindAnswer m o p (Ok x) × (parse x.number ≡ Some r.value) × (r.settled ≡ is_version x)
Reads parse m o p (Err (NoForm n)) = (x : Item) × FindAnswer m o p (Ok x) × (x.number ≡ n) × (parse n ≡ None)
Reads parse m o p (Err (Refused f)) = FindAnswer m o p (Err f)
