use Rattle.std.proofs.Common.{◌≡◌, take, drop}
use Rattle.std.specs.Str.Parse.{digits_value, AllDigits}
use Rattle.std.specs.Str.{all_ascii_digits}
use Rattle.script.proofs.fields.decimal.Given as goal

abbrev pub invariant-loop-byte : goal.invariant-loop-byte
invariant-loop-byte l =
    (l.number ≡ digits_value 10 (take l.byte-index l.text))
    × AllDigits 10 (take l.byte-index l.text)
    × (all_ascii_digits l.text ≡ all_ascii_digits (drop l.byte-index l.text))
