-- That a store of rows, each a chain of bounded length, keeps the rules of histories.
use Rattle.std.proofs.Common.{◌≡◌, ℕ, zero, suc, ◌-◌, ◌<◌, ◌≤◌, List, [], ◌∷◌, map, length, get_or, sym, ap, ◌∙◌, subst, arith}
use mathlib.Core.Logic.{∥∥₁_elim}
use Rattle.std.proofs.lemmas.List.{length-map}
use Rattle.history.specs.declared.item.Item.{Item}
use Rattle.history.specs.Chain.{Lawful}
use Rattle.history.specs.Meaning.{Meaning, Sound, chain_of}
use Rattle.history.proofs.Laws.{lawful_prop}

pub lawful_from : (xs : List Item) → ∥ Lawful xs ∥₁ → Lawful xs
lawful_from xs l = ∥∥₁_elim l (lawful_prop xs) (λ a. a)

module _ {R : Type 0} (chain : R → List Item) where
  each_lawful : ((r : R) → ∥ Lawful (chain r) ∥₁) → (rows : List R) (o : ℕ) → o < length rows → Lawful (get_or (map chain rows) o [])
  each_lawful lawful [] o h = absurd (omega arith)
  each_lawful lawful (r ∷ rs) zero h = lawful_from (chain r) (lawful r)
  each_lawful lawful (r ∷ rs) (suc o) h = each_lawful lawful rs o (omega arith)

  pub each_short : {most : ℕ} → ((r : R) → length (chain r) ≤ most) → (rows : List R) (o : ℕ) → length (get_or (map chain rows) o []) ≤ most
  each_short short [] o = omega arith
  each_short short (r ∷ rs) zero = short r
  each_short short (r ∷ rs) (suc o) = each_short short rs o

  pub rows_sound : {most count : ℕ} → most ≤ 65535 → count ≤ 65535 → ((r : R) → ∥ Lawful (chain r) ∥₁) → ((r : R) → length (chain r) ≤ most)
      → (rows : List R) → length rows ≡ count
      → (m : Meaning) → m.chains ≡ map chain rows → ((o : ℕ) → m.room o ≡ most - length (chain_of m o)) → Sound m
  rows_sound {most} small few lawful short rows long m is room =
      let same = ap length is ∙ length-map rows chain in
      record {
        few = omega arith;
        lawful = λ o h. subst (λ cs. Lawful (get_or cs o [])) (sym is) (each_lawful lawful rows o (omega arith));
        bounded = λ o h. let left = room o in let n : length (chain_of m o) ≤ most = subst (λ cs. length (get_or cs o []) ≤ most) (sym is) (each_short short rows o) in omega arith;
      }
