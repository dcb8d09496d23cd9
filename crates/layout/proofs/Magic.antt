-- The first four bytes, as a number and as a front of the bytes.
use Rattle.std.proofs.Common.{◌≡◌, ℕ, ◌<◌, Bool, eqb, List, [], ◌∷◌, ◌++◌, get_or, refl, ap, ◌∙◌, arith}
use Rattle.std.specs.List.{starts_with}
use Rattle.std.proofs.lemmas.Slice.Eq.{starts_is}
use Rattle.std.proofs.lemmas.Bool.Decides.{same_from_decides, Decides-eqb}
use Rattle.layout.specs.Field.{num}
use Rattle.layout.specs.Layout.{magic}

reads : (rest : List ℕ) → num (magic ++ rest) 0 4 ≡ 0x50544831
unfolding num
reads rest = refl

front : (bs : List ℕ) → ((i : ℕ) → get_or bs i 0 < 256) → num bs 0 4 ≡ 0x50544831 → (rest : List ℕ) × (bs ≡ magic ++ rest)
unfolding num
front [] h e = absurd (omega arith)
front (a ∷ []) h e = absurd (omega (arith, h 0))
front (a ∷ b ∷ []) h e = absurd (omega (arith, h 0, h 1))
front (a ∷ b ∷ c ∷ []) h e = absurd (omega (arith, h 0, h 1, h 2))
front (a ∷ b ∷ c ∷ d ∷ rest) h e =
    let p : a ≡ 0x50 = omega (arith, h 0, h 1, h 2, h 3) in
    let q : b ≡ 0x54 = omega (arith, h 0, h 1, h 2, h 3) in
    let r : c ≡ 0x48 = omega (arith, h 0, h 1, h 2, h 3) in
    let s : d ≡ 0x31 = omega (arith, h 0, h 1, h 2, h 3) in
    (rest, cc)

pub magic_is : (bs : List ℕ) (r : Bool) → ((i : ℕ) → get_or bs i 0 < 256) → r ≡ starts_with eqb bs magic → r ≡ eqb (num bs 0 4) 0x50544831
magic_is bs r h m =
    let s = starts_is Decides-eqb bs magic r m in
    same_from_decides {P = num bs 0 4 ≡ 0x50544831} r _ (
      (λ t. ap (λ cs. num cs 0 4) (s.0 t) ∙ reads _),
      (λ e. let f = front bs h e in s.1 f.0 f.1),
    )
    (Decides-eqb _ _)
