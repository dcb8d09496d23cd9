-- An object settled.
use Rattle.std.specs.Prelude.{◌≡◌, ℕ}
use Rattle.history.specs.Meaning.{chain_of}
use Rattle.register.specs.declared.walk.Walk.{Walk}
use Rattle.register.specs.State.{State}
use Rattle.register.specs.Calls.{Settling, settle_chain}
use Rattle.register.specs.Settling.{Leaves}

abbrev pub settling : State → ℕ → Settling
settling s o = settle_chain s.clocks s.records (chain_of s.store o)

pub record Settled (s : State) (o : ℕ) (k : Walk) (t : State) : Type 0 where
  pub sealed : k.sealed ≡ (settling s o).sealed
  pub dropped : k.dropped ≡ (settling s o).dropped
  pub leaves : Leaves s o (settling s o).chain (settling s o).records (settling s o).ops t
