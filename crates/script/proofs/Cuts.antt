-- A script is its first line, and the lines of what follows that line's end.
use Rattle.std.proofs.Common.{◌≡◌, ℕ, suc, ◌+◌, ◌<◌, Bool, true, false, cond, not, eqb, List, [], ◌∷◌, length, take, drop, refl, ap, ◌∙◌, arith}
use Rattle.std.specs.List.{prefix_len}
use Rattle.script.specs.Format.{differs}
use Rattle.script.specs.Lines.{lines, onto_first}

-- how the first line ends in bs, and where the next begins
abbrev Cut : List ℕ → Type 0
Cut bs = lines bs ≡ take (prefix_len (differs 10) bs) bs ∷ lines (drop (prefix_len (differs 10) bs + 1) bs)

longer : (b n : ℕ) (bs : List ℕ) → onto_first b (take n bs ∷ lines (drop (n + 1) bs)) ≡ take (1 + n) (b ∷ bs) ∷ lines (drop (1 + n + 1) (b ∷ bs))
longer b n bs =
    let one : suc n ≡ 1 + n = omega arith in
    let two : suc (n + 1) ≡ 1 + n + 1 = omega arith in
    ap (λ k. (b ∷ take n bs) ∷ lines (drop k (b ∷ bs))) two ∙ ap (λ k. take k (b ∷ bs) ∷ lines (drop (1 + n + 1) (b ∷ bs))) one

cut_more : (b : ℕ) (bs : List ℕ) (t : Bool) → Cut bs → cond t ([] ∷ lines bs) (onto_first b (lines bs)) ≡ take (cond (not t) (1 + prefix_len (differs 10) bs) 0) (b ∷ bs) ∷ lines (drop (cond (not t) (1 + prefix_len (differs 10) bs) 0 + 1) (b ∷ bs))
cut_more b bs true h = refl
cut_more b bs false h = ap (onto_first b) h ∙ longer b (prefix_len (differs 10) bs) bs

cut_last : (b : ℕ) (t : Bool) → cond t ([] ∷ []) ((b ∷ []) ∷ []) ≡ take (cond (not t) 1 0) (b ∷ []) ∷ lines (drop (cond (not t) 1 0 + 1) (b ∷ []))
cut_last b true = refl
cut_last b false = refl

pub lines_cut : (bs : List ℕ) → 0 < length bs → Cut bs
lines_cut [] some = absurd (omega arith)
lines_cut (b ∷ []) some = cut_last b (eqb b 10)
lines_cut (b ∷ c ∷ bs) some = cut_more b (c ∷ bs) (eqb b 10) (lines_cut (c ∷ bs) (omega arith))
