-- Digits, and the numbers that texts write.
use Rattle.std.proofs.Common.{◌≡◌, ℕ, ◌+◌, ◌^◌, ◌<◌, ◌≤◌, true, ◌&&◌, leb, List, [], ◌∷◌, length, get_or, take, drop, Some, sym, ap, ◌∙◌, subst, arith}
use native.Mathlib.Nat.{pow-le-pow_right}
use Rattle.std.specs.Str.{all_ascii_digits}
use Rattle.std.specs.Str.Parse.{digits_value, AllDigits}
use Rattle.std.specs.Char.{is_ascii_digit, digit_value}
use Rattle.std.proofs.lemmas.Str.Parse.{IsNumeralModel, numerals_by_value, tells_all_ascii_digits}
use Rattle.std.proofs.lemmas.Int.Digits.{digits_value-lt, digits_more}
use Rattle.std.proofs.lemmas.List.{at_drop_more, length-take-le}
use Rattle.std.proofs.lemmas.Bool.{and_parts, and_from, leb-true, le-leb, cond-true}
use Rattle.std.proofs.lemmas.Bool.Decides.{nat_tests}
use Rattle.script.proofs.Options.{cond_is}
use Rattle.script.specs.Format.{number_in}
use Rattle.script.specs.Spelling.{Number}

pub digit_range : (c : ℕ) → is_ascii_digit c ≡ true → (48 ≤ c) × (c ≤ 57)
digit_range c e = let p = and_parts (leb 48 c) (leb c 57) e in (leb-true 48 c p.0, leb-true c 57 p.1)

-- a byte is a digit where its value is below ten
digit_below : (c : ℕ) → digit_value c < 10 → is_ascii_digit c ≡ true
digit_below c lt = grind (arith, nat_tests)

module _ (text : List ℕ) (i : ℕ) (inside : i < length text) where
  -- a front of at most nine digits is below ten to the ninth
  pub front_small : length text ≤ 10 → AllDigits 10 (take i text) → digits_value 10 (take i text) < 10 ^ 9
  front_small short d =
      let n = length-take-le i text (omega arith) in
      omega (arith, digits_value-lt 10 (take i text) d, ap (λ k. 10 ^ k) n, pow-le-pow_right {n = 10} (omega arith) {i = i} {j = 9} (omega arith))

  module _ (digit : digit_value (get_or text i 0) < 10) where
    pub digits_digit : AllDigits 10 (take i text) → AllDigits 10 (take (i + 1) text)
    digits_digit d = digits_more 10 text i inside d digit

    pub all_digit : all_ascii_digits (drop i text) ≡ all_ascii_digits (drop (i + 1) text)
    all_digit = at_drop_more all_ascii_digits text i 0 inside ∙ ap (λ b. b && all_ascii_digits (drop (i + 1) text)) (digit_below (get_or text i 0) digit)

pub digits_model : IsNumeralModel (λ ds. all_ascii_digits ds ≡ true) (digits_value 10)
digits_model = numerals_by_value _ tells_all_ascii_digits

pub number_text : (t : List ℕ) (n : ℕ) → number_in t ≡ Some n → Number t n
number_text t n e =
    let p = cond_is (leb 1 (length t) && (leb (length t) 10 && (all_ascii_digits t && leb (digits_value 10 t) 4294967295))) e in
    let q = and_parts (leb 1 (length t)) _ p.0 in
    let r = and_parts (leb (length t) 10) _ q.1 in
    let s = and_parts (all_ascii_digits t) _ r.1 in
    record {
      some = leb-true 1 (length t) q.0;
      few = leb-true (length t) 10 r.0;
      digits = s.0;
      writes = p.1;
      bounded = subst (λ k. k ≤ 4294967295) p.1 (leb-true (digits_value 10 t) 4294967295 s.1);
    }

pub text_number : (t : List ℕ) (n : ℕ) → Number t n → number_in t ≡ Some n
text_number t n h =
    cond-true _ _ _ (and_from _ _ (le-leb 1 (length t) h.some) (and_from _ _ (le-leb (length t) 10 h.few) (and_from _ _ h.digits (le-leb (digits_value 10 t) 4294967295 (subst (λ k. k ≤ 4294967295) (sym h.writes) h.bounded)))))
    ∙ ap Some h.writes

pub number_digit : (t : List ℕ) (n : ℕ) → Number t n → is_ascii_digit (get_or t 0 0) ≡ true
number_digit [] n h = let some = h.some in absurd (omega arith)
number_digit (c ∷ t) n h = (and_parts (is_ascii_digit c) (all_ascii_digits t) h.digits).0
