-- Seats by their values.
use Rattle.std.proofs.Common.{◌≡◌, ◌≤◌, true, false, leb, ◌⊎◌, ℤ, pos, negsuc, ◌≤ℤ◌, Some, sym, ap, ◌∙◌, inl, inr, arith}
use lib.Signed.{mag}
use Rattle.std.proofs.lemmas.Bool.{le-leb, leb-true, cond-true, cond-false, cases_Bool}
use Rattle.std.proofs.lemmas.Int.{ints}
use Rattle.kinds.specs.declared.seats.Seats.{Seats}
use Rattle.kinds.specs.Back.{seats_back}
use Rattle.script.proofs.Options.{some_is, never}
use Rattle.script.specs.Format.{seats_of}

pub seats_mag : (v : Seats) → mag v.value ≤ 32767
seats_mag v = go v.value v.fits.0 v.fits.1
  where
    go : (z : ℤ) → negsuc 32767 ≤ℤ z → z ≤ℤ pos 32767 → mag z ≤ 32767
    go (pos n) l h = omega (arith, ints)
    go (negsuc n) l h = omega (arith, ints)

pub in_range : (z : ℤ) (v : Seats) → v.value ≡ z → Some v ≡ seats_of z
in_range z v e =
    rw (sym e) (sym (cond-true _ _ _ (le-leb (mag v.value) 32767 (seats_mag v)) ∙ seats_back v))

value_fits : (z : ℤ) → mag z ≤ 32767 → (negsuc 32767 ≤ℤ z) × (z ≤ℤ pos 32767)
value_fits (pos n) h = (omega (arith, ints), omega (arith, ints))
value_fits (negsuc n) h = (omega (arith, ints), omega (arith, ints))

-- the seats of a value have it
pub seats_value_is : (z : ℤ) (v : Seats) → seats_of z ≡ Some v → v.value ≡ z
seats_value_is z v e = go (cases_Bool (leb (mag z) 32767))
  where
    go : (leb (mag z) 32767 ≡ true) ⊎ (leb (mag z) 32767 ≡ false) → v.value ≡ z
    go (inl h) =
        let own : Seats = record { value = z; fits = value_fits z (leb-true (mag z) 32767 h) } in
        ap (λ (s : Seats). s.value) (some_is (sym e ∙ cond-true _ _ _ h ∙ seats_back own))
    go (inr h) = never v (sym (cond-false _ _ _ h) ∙ e)
