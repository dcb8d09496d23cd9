-- How a record stands, in words.
use Rattle.std.specs.Prelude.{ℕ, List, Some, None, Option, codes}
use Rattle.ledger.specs.declared.record.Standing.{Standing}
use Rattle.ledger.specs.declared.record.Standing.TheVariants.{Open, Committed, Aborted}

abbrev pub standing_word : Option Standing → List ℕ
standing_word None = codes "unused"
standing_word (Some Open) = codes "open"
standing_word (Some Committed) = codes "committed"
standing_word (Some Aborted) = codes "aborted"
