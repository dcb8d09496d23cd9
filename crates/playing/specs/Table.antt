-- The player: the bytes that it starts from, and what it makes of a script.
use Rattle.std.specs.Prelude.{ℕ, List, [], ◌∷◌}
use Rattle.layout.specs.Laid.{laid_out}
use Rattle.chained.specs.Means.{meaning}
use Rattle.playing.specs.Played.{Played}

-- four objects at 12 and 16 free records
abbrev pub first_table : List ℕ
first_table = laid_out 4 20 (12 ∷ 12 ∷ 12 ∷ 12 ∷ [])

-- seats, first clock 1
abbrev pub Plays : List ℕ → List ℕ → Type 0
Plays script out = Played meaning 1 (meaning first_table) script out
