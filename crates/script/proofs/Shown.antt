-- A call's own line spells it.
use Rattle.std.proofs.Common.{ℕ, suc, ◌≤◌, List, [], ◌∷◌, ℤ, pos, negsuc, decimal, refl, inl, inr, arith}
use lib.Signed.{mag}
use Rattle.std.specs.Fmt.{signed_decimal}
use Rattle.std.specs.List.{AllByRecursion}
use Rattle.std.proofs.lemmas.Fmt.{decimal_nonempty, length-decimal-le, digits_decimal, digits_value-decimal}
use Rattle.kinds.specs.declared.seats.Seats.{Seats}
use Rattle.ledger.specs.declared.call.Call.{Call}
use Rattle.ledger.specs.declared.call.Call.TheVariants.{Begin, Read, Update, Commit, Abort, Glance, Tick, Settle, Standing}
use Rattle.script.proofs.Numbers.{digits_model}
use Rattle.script.proofs.Values.{seats_mag}
use Rattle.script.specs.Spelling.{Field, plain, seats, fields, Number, Text, Fields, Spells, spaced, line_of, Fits}

decimal_number : (n : ℕ) → n ≤ 4294967295 → Number (decimal n) n
decimal_number n h = record {
  some = decimal_nonempty n (omega arith);
  few = length-decimal-le 10 n (omega arith) (omega arith) (omega arith);
  digits = digits_decimal digits_model n (omega arith);
  writes = digits_value-decimal digits_model n (omega arith);
  bounded = h;
}

signed_text : (z : ℤ) → mag z ≤ 32767 → Text (signed_decimal z) (seats z)
signed_text (pos n) h = (n, inl (decimal_number n (omega arith), refl))
signed_text (negsuc n) h = (suc n, inr (record { digits = decimal (suc n); sign = refl; number = decimal_number (suc n) (omega arith) }, refl))

-- what a line can spell, of values as of numbers
abbrev Short : Field → Type 0
Short (plain n) = Fits (plain n)
Short (seats z) = mag z ≤ 32767

spaced_fields : (fs : List Field) → AllByRecursion Short fs → Fields (spaced fs) fs
spaced_fields [] h = refl
spaced_fields (plain n ∷ fs) h = (decimal n, spaced fs, refl, decimal_number n h.0, spaced_fields fs h.1)
spaced_fields (seats z ∷ fs) h = (signed_decimal z, spaced fs, refl, signed_text z h.0, spaced_fields fs h.1)

short : (c : Call Seats) → AllByRecursion Fits (fields c) → AllByRecursion Short (fields c)
short (Begin r site lifetime) h = h
short (Read t o) h = h
short (Update t o v) h = (h.0, (h.1.0, (h.1.1.0, (seats_mag v, tt))))
short (Commit t) h = h
short (Abort t) h = h
short (Glance site o) h = h
short (Tick site clock) h = h
short (Settle o) h = h
short (Standing r) h = h

pub own_line : (c : Call Seats) → AllByRecursion Fits (fields c) → Spells (line_of c) c
own_line c h = (spaced (fields c), refl, spaced_fields (fields c) (short c h))
