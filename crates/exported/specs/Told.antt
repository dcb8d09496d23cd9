-- What a caller in another language is told.
use Rattle.std.specs.Prelude.{◌≡◌, ℕ, min, ◌⊎◌, List, ◌++◌, length, take, drop}
use Rattle.playing.specs.Table.{Plays}

-- the script's answers, and as much of them in front of the buffer as it holds
pub record Told (script before : List ℕ) (r : ℕ) (after : List ℕ) : Type 0 where
  pub answers : List ℕ
  pub played : Plays script answers
  pub long : r ≡ length answers
  pub copied : after ≡ take (min r (length before)) answers ++ drop (min r (length before)) before

-- the greatest number, and the buffer as it was, where memory is wanting
abbrev pub Answers : List ℕ → List ℕ → ℕ → List ℕ → Type 0
Answers script before r after = Told script before r after ⊎ ((r ≡ 18446744073709551615) × (after ≡ before))
