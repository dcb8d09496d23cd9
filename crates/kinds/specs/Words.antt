-- Values in words.
use Rattle.std.specs.Prelude.{List, ℕ, ◌++◌, ℤ, codes, decimal}
use Rattle.std.specs.Fmt.{signed_decimal}
use Rattle.kinds.specs.declared.place.Place.{Place}
use Rattle.kinds.specs.declared.place.Place.TheVariants.{Vacant, Held}

abbrev pub place_words : Place → List ℕ
place_words Vacant = codes "vacant"
place_words (Held t c) = codes "teacher " ++ (decimal t.number ++ (codes " in classroom " ++ decimal c.number))

abbrev pub seats_words : ℤ → List ℕ
seats_words z = signed_decimal z ++ codes " free seats"
