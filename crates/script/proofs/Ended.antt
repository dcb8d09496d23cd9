-- Each answer is printed as one line.
use Rattle.std.proofs.Common.{◌≡◌, ℕ, zero, suc, ◌+◌, ◌/◌, ◌%◌, Bool, true, false, ◌&&◌, eqb, ltb, List, [], ◌∷◌, ◌++◌, ℤ, pos, negsuc, Some, None, decimal, Option, refl, ap, ◌∙◌, append_assoc, arith}
use Rattle.std.proofs.lemmas.Bool.{and_parts, and_from, ne_eqb, not-true, not_from_false, cond_both, cond-false}
use Rattle.std.specs.Fmt.{signed_decimal, digits, digits_onto, digit_glyph}
use Rattle.kinds.specs.declared.seats.Seats.{Seats}
use Rattle.ledger.specs.declared.record.Standing.{Standing}
use Rattle.ledger.specs.declared.record.Standing.TheVariants.{Open, Committed, Aborted}
use Rattle.ledger.specs.declared.call.Answer.{Answer}
use Rattle.ledger.specs.declared.call.Answer.TheVariants.{Began, Value, Wait, Done, Settled, Stands, Refused}
use Rattle.ledger.specs.Refusals.{refusal_number}
use Rattle.script.specs.Format.{differs}
use Rattle.script.specs.Lines.{lines, onto_first}
use Rattle.ledger.specs.Words.{standing_word}
use Rattle.script.specs.Printed.{shown, printed}

-- no byte ends a line
abbrev no_end : List ℕ → Bool
no_end [] = true
no_end (b ∷ bs) = differs 10 b && no_end bs

no_end-++ : (xs ys : List ℕ) → no_end xs ≡ true → no_end ys ≡ true → no_end (xs ++ ys) ≡ true
no_end-++ [] ys p q = q
no_end-++ (x ∷ xs) ys p q = let r = and_parts (differs 10 x) (no_end xs) p in and_from _ _ r.0 (no_end-++ xs ys r.1 q)

glyph_differs : (d : ℕ) → differs 10 (digit_glyph false d) ≡ true
glyph_differs d =
    cond_both (ltb d 10) (48 + d) (87 + d) (λ b. differs 10 b ≡ true)
    (λ _. not_from_false _ (ne_eqb (48 + d) 10 (λ e. omega arith))) (λ _. not_from_false _ (ne_eqb (87 + d) 10 (λ e. omega arith)))

spelled_no_end : (k n : ℕ) (acc : List ℕ) → no_end acc ≡ true → no_end (digits_onto k 10 false n acc) ≡ true
spelled_no_end zero n acc h = h
spelled_no_end (suc k) n acc h =
    let more = and_from _ _ (glyph_differs (n % 10)) h in
    cond_both (eqb (n / 10) 0) _ _ (λ (bs : List ℕ). no_end bs ≡ true) (λ _. more) (λ _. spelled_no_end k (n / 10) (digit_glyph false (n % 10) ∷ acc) more)

decimal_no_end : (n : ℕ) → no_end (decimal n) ≡ true
unfolding digits
decimal_no_end n = spelled_no_end 64 n [] refl

signed_no_end : (z : ℤ) → no_end (signed_decimal z) ≡ true
signed_no_end (pos n) = decimal_no_end n
signed_no_end (negsuc n) = decimal_no_end (suc n)

word_no_end : (s : Option Standing) → no_end (standing_word s) ≡ true
word_no_end None = refl
word_no_end (Some Open) = refl
word_no_end (Some Committed) = refl
word_no_end (Some Aborted) = refl

shown_no_end : (a : Answer Seats) → no_end (shown a) ≡ true
shown_no_end (Began t) = decimal_no_end t.1
shown_no_end (Value v) = signed_no_end v.value
shown_no_end (Wait r) = decimal_no_end r
shown_no_end Done = refl
shown_no_end (Settled n) = no_end-++ (decimal n.0) _ (decimal_no_end n.0) (decimal_no_end n.1)
shown_no_end (Stands s n) = no_end-++ (standing_word s) _ (word_no_end s) (decimal_no_end n)
shown_no_end (Refused why) = decimal_no_end (refusal_number why)

line_ends : (t rest : List ℕ) → no_end t ≡ true → lines (t ++ (10 ∷ rest)) ≡ t ∷ lines rest
line_ends [] rest h = refl
line_ends (b ∷ t) rest h =
    let p = and_parts (differs 10 b) (no_end t) h in
    cond-false _ _ _ (not-true (eqb b 10) p.0) ∙ ap (onto_first b) (line_ends t rest p.1)

pub line_printed : (a : Answer Seats) (rest : List ℕ) → lines (printed a ++ rest) ≡ shown a ∷ lines rest
line_printed a rest = ap lines (append_assoc (shown a) (10 ∷ []) rest) ∙ line_ends (shown a) rest (shown_no_end a)
