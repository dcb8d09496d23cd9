-- What find answers after each accepted operation.
use Rattle.std.proofs.Common.{◌≡◌, ℕ, ◌-◌, ◌<◌, ◌≤◌, Bool, true, false, cond, ltb, leb, ◌⊎◌, List, [], ◌∷◌, map, Some, sym, refl, ap, ◌∙◌, subst, inl, inr, arith}
use Rattle.std.proofs.lemmas.Bool.{cond_both, eqb-true, eqb-false, leb-true, leb-false, ltb-true, ltb-false, not_from_false, not-true, ne_eqb}
use Rattle.history.specs.declared.item.Item.{Item}
use Rattle.history.specs.Chain.{keep, last_item, starts_by, has_start, find_in, extends, seals, drop_in, put_in, fresh_item, Lawful}
use Rattle.history.specs.Meaning.{version_at}
use Rattle.history.specs.Meaning.Op.{Find, At, Extend, Put, Seal, Drop}
use Rattle.history.specs.Laws.{changed, later, in_place_of, HistoriesStand}
use Rattle.history.specs.Members.{◌∈◌}
use Rattle.history.proofs.Chains.{in_keep, of_keep, of_put, in_put_new, in_put_old, lawful_sorted, find_is, find_from, find_some, FoundAt}
use Rattle.history.proofs.Laws.{extends_start, seals_start, first_stays, lawful_extend, lawful_seal, lawful_drop, lawful_put}
use Rattle.history.proofs.Outcomes.{extend_needs, put_needs, drop_needs}

-- items changed in place, each keeping its start

module _ (f : Item → Item) (same : (x : Item) → (f x).start ≡ x.start) (p : ℕ) where
  keep_map : (xs : List Item) → keep (starts_by p) (map f xs) ≡ map f (keep (starts_by p) xs)
  keep_map [] = refl
  keep_map (x ∷ xs) =
      ap (λ n. cond (leb n p) (f x ∷ keep (starts_by p) (map f xs)) (keep (starts_by p) (map f xs))) (same x) ∙ step (leb x.start p) (keep_map xs)
    where
      step : (b : Bool) → keep (starts_by p) (map f xs) ≡ map f (keep (starts_by p) xs) → cond b (f x ∷ keep (starts_by p) (map f xs)) (keep (starts_by p) (map f xs)) ≡ map f (cond b (x ∷ keep (starts_by p) xs) (keep (starts_by p) xs))
      step true e = ap (λ l. f x ∷ l) e
      step false e = e

  last_map : (xs : List Item) → last_item (map f xs) ≡ changed f (last_item xs)
  last_map [] = refl
  last_map (x ∷ []) = refl
  last_map (x ∷ (y ∷ ys)) = last_map (y ∷ ys)

  find_map : (xs : List Item) → find_in (map f xs) p ≡ changed f (find_in xs p)
  find_map xs = ap last_item (keep_map xs) ∙ last_map (keep (starts_by p) xs)

-- put

module _ (xs : List Item) (new : Item) (l : Lawful xs) (after : Lawful (put_in xs new)) (q : ℕ) where
  keeps_found : (x : Item) → FoundAt xs q x → (q < new.start) ⊎ (new.start ≤ x.start) → find_in (put_in xs new) q ≡ Some x
  keeps_found x f or =
      find_from (put_in xs new) q x (lawful_sorted (put_in xs new) after) (
        in_put_old xs new x f.0,
        f.1,
        λ y i le. elim (of_put xs new y i) [
          | inl j ↦ f.2 y j le
          | inr e ↦ (let n = ap (λ (r : Item). r.start) e in elim or [ inl a ↦ absurd (omega arith) | inr a ↦ omega arith ])
        ],
      )

  finds_new : (x : Item) → FoundAt xs q x → new.start ≤ q → x.start < new.start → find_in (put_in xs new) q ≡ Some new
  finds_new x f by lt =
      find_from (put_in xs new) q new (lawful_sorted (put_in xs new) after) (
        in_put_new xs new,
        by,
        λ y i le. elim (of_put xs new y i) [
          | inl j ↦ (let k = f.2 y j le in omega arith)
          | inr e ↦ (let n = ap (λ (r : Item). r.start) e in omega arith)
        ],
      )

  find_put : find_in (put_in xs new) q ≡ cond (leb new.start q) (later new (find_in xs q)) (find_in xs q)
  find_put =
      let r = find_some xs q l in
      let x = r.0 in
      let f = find_is xs q x (lawful_sorted xs l) r.1 in
      subst (λ o. find_in (put_in xs new) q ≡ cond (leb new.start q) (later new o) o) (sym r.1)
      (cond_both (leb new.start q) (later new (Some x)) (Some x) (λ o. find_in (put_in xs new) q ≡ o)
      (λ e. cond_both (ltb x.start new.start) new x (λ z. find_in (put_in xs new) q ≡ Some z)
      (λ t. finds_new x f (leb-true new.start q e) (ltb-true x.start new.start t))
      (λ t. keeps_found x f (inr (ltb-false x.start new.start t))))
      (λ e. keeps_found x f (inl (leb-false new.start q e))))

-- drop

module _ (xs : List Item) (s : ℕ) (l : Lawful xs) (after : Lawful (drop_in xs s)) (q : ℕ) where
  -- the item found is another than the dropped one
  stays_found : (p : ℕ) (x : Item) → FoundAt xs p x → has_start s x ≡ false → ((y : Item) → y ∈ xs → has_start s y ≡ false → y.start ≤ q → y.start ≤ p) → x.start ≤ q → find_in (drop_in xs s) q ≡ Some x
  stays_found p x f other near by =
      find_from (drop_in xs s) q x (lawful_sorted (drop_in xs s) after) (in_keep _ x xs f.0 (not_from_false _ other), by, λ y i le. let k = of_keep _ y xs i in f.2 y k.0 (near y k.0 (not-true _ k.1) le))

  find_drop : (s ≡ 0 → ⊥) → find_in (drop_in xs s) q ≡ in_place_of s (find_in xs (s - 1)) (find_in xs q)
  find_drop nz =
      let sorted = lawful_sorted xs l in
      let r = find_some xs q l in
      let x = r.0 in
      let f = find_is xs q x sorted r.1 in
      let u = find_some xs (s - 1) l in
      let w = u.0 in
      let g = find_is xs (s - 1) w sorted u.1 in
      subst (λ o. find_in (drop_in xs s) q ≡ in_place_of s (find_in xs (s - 1)) o) (sym r.1)
      (cond_both (has_start s x) (find_in xs (s - 1)) (Some x) (λ o. find_in (drop_in xs s) q ≡ o)
      (λ e. let x-is = eqb-true x.start s e in
      stays_found (s - 1) w g (ne_eqb w.start s (λ z. let k = g.1 in omega arith)) (λ y i ne le. let a = f.2 y i le in let b = eqb-false y.start s ne in omega_below y.start s b (omega arith)) (let k = g.1 in let m = f.1 in omega arith)
      ∙ sym u.1)
      (λ e. stays_found q x f e (λ y i ne le. le) f.1))
    where
      omega_below : (a b : ℕ) → (a ≡ b → ⊥) → a ≤ b → a ≤ b - 1
      omega_below a b ne le = omega arith

-- the law of histories

not_first : (xs : List Item) (s : ℕ) → Lawful xs → version_at s xs ≡ false → s ≡ 0 → ⊥
not_first [] s l h z = l
not_first (x ∷ xs) s l h z = eqb-false x.start s (first_stays s x xs l h) (l.0 ∙ sym z)

pub histories_stand_lem : HistoriesStand
histories_stand_lem xs room (Find p) l e = record { lawful = l; finds = λ q. refl }
histories_stand_lem xs room At l e = record { lawful = l; finds = λ q. refl }
histories_stand_lem xs room (Extend s p) l e =
    let n = extend_needs xs room s p e in
    record { lawful = lawful_extend xs s p l n.early n.apart; finds = λ q. find_map (extends s p) (extends_start s p) q xs }
histories_stand_lem xs room (Put p mark num) l e =
    let n = put_needs xs room p mark num e in
    let new = fresh_item p mark num in
    let after = lawful_put xs new l (omega arith, n.early, n.marked) refl n.apart in
    record { lawful = after; finds = find_put xs new l after }
histories_stand_lem xs room (Seal s) l e = record { lawful = lawful_seal xs s l; finds = λ q. find_map (seals s) (seals_start s) q xs }
histories_stand_lem xs room (Drop s) l e =
    let n = drop_needs xs room s e in
    let after = lawful_drop xs s l n.token in
    record { lawful = after; finds = λ q. find_drop xs s l after q (not_first xs s l n.token) }
