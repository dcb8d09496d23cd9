-- What passed checks tell.
use Rattle.std.proofs.Common.{◌≡◌, Some, None, Ok, Err, Option, refl}
use Rattle.ledger.specs.declared.refusal.Refusal.{Refusal}
use Rattle.ledger.specs.Refusals.{first, checked, left}

pub first_none : (a b : Option Refusal) → first a b ≡ None → (a ≡ None) × (b ≡ None)
first_none None b e = (refl, e)
first_none (Some why) b e = absurd cc

-- what a checked answer tells of the check
pub checked_err : {A : Type 0} (k : Option Refusal) (a : A) (why : Refusal) → Err why ≡ checked k a → k ≡ Some why
checked_err None a why e = cc
checked_err (Some other) a why e = cc

pub checked_ok : {A : Type 0} (k : Option Refusal) (a b : A) → Ok b ≡ checked k a → (k ≡ None) × (b ≡ a)
checked_ok None a b e = (refl, cc)
checked_ok (Some other) a b e = absurd cc

pub left_none : {A : Type 0} (k : Option Refusal) (new old : A) → k ≡ None → left k new old ≡ new
left_none k new old e = rw e
