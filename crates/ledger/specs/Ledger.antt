-- What a ledger keeps: no record has more tokens left than its site's clock has passed.
use Rattle.std.specs.Prelude.{ℕ, ◌≤◌, List, Some, None, Option, All}
use Rattle.ledger.specs.declared.record.Standing.{Standing}
use Rattle.ledger.specs.declared.record.CommitRecord.{CommitRecord}
use Rattle.ledger.specs.Time.{site_of}
use Rattle.ledger.specs.Records.{clock_at, standing_of}

abbrev pub tokens_in : Option CommitRecord → ℕ
tokens_in None = 0
tokens_in (Some u) = u.tokens

abbrev pub site_in : Option CommitRecord → ℕ
site_in None = 0
site_in (Some u) = site_of u.creation

abbrev pub Counted : List (Option CommitRecord) → List ℕ → Type 0
Counted records clocks = All (λ r. tokens_in r ≤ clock_at clocks (site_in r)) records

-- a record's standing, none for one that is unused, and its tokens left
abbrev pub state_of : List ℕ → Option CommitRecord → Option Standing × ℕ
state_of clocks None = (None, 0)
state_of clocks (Some u) = (Some (standing_of clocks u), u.tokens)
