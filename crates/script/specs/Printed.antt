-- The lines that answers are printed as.
use Rattle.std.specs.Prelude.{ℕ, List, [], ◌∷◌, ◌++◌, codes, decimal}
use Rattle.std.specs.Fmt.{signed_decimal}
use Rattle.kinds.specs.declared.seats.Seats.{Seats}
use Rattle.ledger.specs.Words.{standing_word}
use Rattle.ledger.specs.declared.call.Answer.{Answer}
use Rattle.ledger.specs.declared.call.Answer.TheVariants.{Began, Value, Wait, Done, Settled, Stands, Refused}
use Rattle.ledger.specs.Refusals.{refusal_number}

-- an answer's line, without its end
abbrev pub shown : Answer Seats → List ℕ
shown (Began t) = codes "+ " ++ decimal t.1
shown (Value v) = codes "= " ++ signed_decimal v.value
shown (Wait r) = codes "w " ++ decimal r
shown Done = codes "."
shown (Settled n) = codes "s " ++ (decimal n.0 ++ (codes " " ++ decimal n.1))
shown (Stands s n) = codes "q " ++ (standing_word s ++ (codes " " ++ decimal n))
shown (Refused why) = codes "- " ++ decimal (refusal_number why)

abbrev pub printed : Answer Seats → List ℕ
printed a = shown a ++ (10 ∷ [])
