-- Whether a register may start over a store: no token, and every item ends before the first clock.
use Rattle.std.specs.Prelude.{ℕ, ◌/◌, Bool, true, ◌&&◌, List, [], ◌∷◌, replicate, nat_le, nat_lt, None}
use Rattle.history.specs.declared.item.Item.{Item}
use Rattle.history.specs.Chain.{is_version}
use Rattle.history.specs.Meaning.{Meaning}
use Rattle.register.specs.State.{State}

abbrev pub fit_item : ℕ → Item → Bool
fit_item clock x = is_version x && nat_lt (x.«end» / 68719476736) clock

abbrev pub fit_chain : ℕ → List Item → Bool
fit_chain clock [] = true
fit_chain clock (x ∷ xs) = fit_item clock x && fit_chain clock xs

abbrev pub fit_chains : ℕ → List (List Item) → Bool
fit_chains clock [] = true
fit_chains clock (xs ∷ rest) = fit_chain clock xs && fit_chains clock rest

abbrev pub fit_start : Meaning → ℕ → Bool
fit_start m clock = nat_le 1 clock && (nat_le clock 134217727 && fit_chains clock m.chains)

-- the state that a register starts in
abbrev pub started : Meaning → ℕ → State
started m clock = record { fit = fit_start m clock; store = m; records = replicate 64 None; clocks = replicate 16 clock }
