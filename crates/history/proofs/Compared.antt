-- What `eq` of two walks over versions tells.
use Rattle.std.proofs.Common.{◌≡◌, Bool, true, false, ◌&&◌, eqb, List, [], ◌∷◌, ◌++◌, length, Some, None, Option, sym, refl, ap, ◌∙◌, arith}
use Rattle.std.proofs.lemmas.Bool.{and_parts, and_from, eqb-true, eq-eqb, both_ways}
use Rattle.std.proofs.lemmas.List.{append_cancel_left}
use Rattle.std.specs.Bool.{Decides}
use Rattle.std.specs.Iterator.{Yields, YieldsThen, YieldsFirst}
use Rattle.std.specs.List.{AllZip}
use Rattle.std.specs.Option.{MatchOption, IfSome}
use Rattle.history.specs.declared.item.Version.{Version}

abbrev pub alike_versions : Version → Version → Bool
alike_versions x y = eqb x.start y.start && eqb x.number y.number

same_version : (x y : Version) → alike_versions x y ≡ true → x ≡ y
same_version x y e = let p = and_parts _ _ e in
    let s = eqb-true x.start y.start p.0 in
    let n = eqb-true x.number y.number p.1 in
    λ j. record { start = s j; number = n j }

version_itself : (x y : Version) → x ≡ y → alike_versions x y ≡ true
version_itself x y e = and_from _ _ (eq-eqb x.start y.start (ap (λ (v : Version). v.start) e)) (eq-eqb x.number y.number (ap (λ (v : Version). v.number) e))

zip_same : (xs ys : List Version) → AllZip (λ x y. alike_versions x y ≡ true) xs ys → xs ≡ ys
zip_same [] [] h = refl
zip_same [] (y ∷ ys) h = absurd h
zip_same (x ∷ xs) [] h = absurd h
zip_same (x ∷ xs) (y ∷ ys) h = ap (λ v. v ∷ xs) (same_version x y h.0) ∙ ap (λ vs. y ∷ vs) (zip_same xs ys h.1)

module _ {S : Type 0} (rest : S → List Version) where
  passed : (xs : List Version) (s t : S) → Yields (YieldsFirst rest) s xs t → rest s ≡ xs ++ rest t
  passed [] s t e = ap rest e
  passed (x ∷ xs) s t h = h.1 ∙ ap (λ ys. x ∷ ys) (passed xs h.0 t h.2)

-- how two walks ended, and the answer then
abbrev Ended : Bool → Option Version → Option Version → Type 0
Ended r o p = MatchOption o (MatchOption p (r ≡ true) (λ _. r ≡ false)) (λ x. (r ≡ false) × IfSome p (λ y. alike_versions x y ≡ false))

one_longer : (y : Version) (ys : List Version) → [] ≡ y ∷ ys → ⊥
one_longer y ys e = let l = ap length e in omega (arith, l)

first_same : (x y : Version) (xs ys : List Version) → x ∷ xs ≡ y ∷ ys → x ≡ y
first_same x y xs ys e = cc

module _ {S T : Type 0} (rest : S → List Version) (others : T → List Version) where
  ends : (r : Bool) (o p : Option Version) (t u : S) (v w : T) → YieldsFirst rest t o u → YieldsFirst others v p w → Ended r o p → Decides r (rest t ≡ others v)
  ends r None None t u v w h k e = (λ _. h.0 ∙ sym k.0, λ _. e)
  ends r None (Some y) t u v w h k e = (λ y. absurd (both_ways r e y), λ q. absurd (one_longer y (others w) (sym h.0 ∙ q ∙ k)))
  ends r (Some x) None t u v w h k e = (λ y. absurd (both_ways r e.0 y), λ q. absurd (one_longer x (rest u) (sym k.0 ∙ sym q ∙ h)))
  ends r (Some x) (Some y) t u v w h k e =
      (λ y. absurd (both_ways r e.0 y), λ q. absurd (both_ways (alike_versions x y) e.1 (version_itself x y (first_same x y (rest u) (others w) (sym h ∙ q ∙ k)))))

  pub eq_decides : (r : Bool) (s : S) (it : T) (xs ys : List Version) (o p : Option Version) (u : S) (w : T)
      → YieldsThen (YieldsFirst rest) s xs o u → YieldsThen (YieldsFirst others) it ys p w → AllZip (λ x y. alike_versions x y ≡ true) xs ys → Ended r o p
      → Decides r (rest s ≡ others it)
  eq_decides r s it xs ys o p u w a b z e =
      let d = ends r o p a.0 u b.0 w a.2 b.2 e in
      let ours = passed rest xs s a.0 a.1 in
      let theirs = passed others ys it b.0 b.1 ∙ ap (λ zs. zs ++ others b.0) (sym (zip_same xs ys z)) in
      (λ t. ours ∙ ap (λ zs. xs ++ zs) (d.0 t) ∙ sym theirs, λ q. d.1 (append_cancel_left xs (rest a.0) (others b.0) (sym ours ∙ q ∙ theirs)))
