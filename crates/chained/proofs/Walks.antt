-- What searches along a chain find.
use Rattle.std.proofs.Common.{◌≡◌, ℕ, zero, suc, ◌+◌, cond, List, [], ◌∷◌, map, take, Some, None, Option, unwrap_or, sym, refl, ap, ◌∙◌, ⊎_elim, arith}
use Rattle.std.specs.List.{slice_get, prefix_len, last_or}
use Rattle.std.specs.Option.{option_map}
use Rattle.std.proofs.lemmas.Bool.{cases_Bool}
use Rattle.history.specs.declared.item.Item.{Item}
use Rattle.history.specs.Chain.{nth_item, starts_by}
use Rattle.layout.specs.Layout.{item_at}
use Rattle.chained.specs.Edits.{last_by}

nth_at : (bs ns : List ℕ) (k : ℕ) → nth_item (map (item_at bs) ns) k ≡ option_map (item_at bs) (slice_get ns k)
nth_at bs [] k = refl
nth_at bs (n ∷ ns) zero = refl
nth_at bs (n ∷ ns) (suc k) = nth_at bs ns k

module _ (bs ns : List ℕ) (n : ℕ) (r : Option ℕ) (e : option_map (λ k. k) r ≡ slice_get ns n) where
  pub nth_some : (k : ℕ) (x : Item) → r ≡ Some k → x ≡ item_at bs k → Some x ≡ nth_item (map (item_at bs) ns) n
  nth_some k x f g = ap Some g ∙ ap (λ o. option_map (item_at bs) (option_map (λ k. k) o)) (sym f) ∙ ap (option_map (item_at bs)) e ∙ sym (nth_at bs ns n)

  pub nth_none : r ≡ None → None ≡ nth_item (map (item_at bs) ns) n
  nth_none f = ap (λ o. option_map (item_at bs) (option_map (λ k. k) o)) (sym f) ∙ ap (option_map (item_at bs)) e ∙ sym (nth_at bs ns n)

pub last_is : (bs : List ℕ) (p a : ℕ) (ns : List ℕ) (o : Option ℕ) → unwrap_or o 0 ≡ a → last_by bs p a ns ≡ unwrap_or (last_or o (take (prefix_len (λ k. starts_by p (item_at bs k)) ns) ns)) 0
last_is bs p a [] o e = sym e
last_is bs p a (k ∷ ks) o e =
    ⊎_elim
    (λ t.
    let n : ℕ = prefix_len (λ k. starts_by p (item_at bs k)) ks in
    let s : 1 + n ≡ suc n = omega arith in
    let z : ◌≡◌ {A = List ℕ} (take (cond (starts_by p (item_at bs k)) (1 + n) 0) (k ∷ ks)) (k ∷ take n ks) = ap (λ b. take (cond b (1 + n) 0) (k ∷ ks)) t ∙ ap (λ i. take i (k ∷ ks)) s in
    ap (λ b. cond b (last_by bs p k ks) a) t ∙ last_is bs p k ks (Some k) refl ∙ ap (λ ns. unwrap_or (last_or o ns) 0) (sym z))
    (λ t.
    let z : ◌≡◌ {A = List ℕ} (take (cond (starts_by p (item_at bs k)) (1 + prefix_len (λ k. starts_by p (item_at bs k)) ks) 0) (k ∷ ks)) [] = ap (λ b. take (cond b (1 + prefix_len (λ k. starts_by p (item_at bs k)) ks) 0) (k ∷ ks)) t in
    ap (λ b. cond b (last_by bs p k ks) a) t ∙ sym e ∙ ap (λ ns. unwrap_or (last_or o ns) 0) (sym z))
    (cases_Bool (starts_by p (item_at bs k)))
