-- The last record of a chain that starts by a pseudo-time, and what its item tells.
use Rattle.std.proofs.Common.{◌≡◌, ℕ, ◌<◌, ◌≤◌, Bool, true, false, cond, ◌&&◌, eqb, ltb, leb, List, [], ◌∷◌, map, Some, sym, refl, ap, ◌∙◌, subst, ⊎_elim, arith}
use Rattle.std.proofs.lemmas.Bool.{cases_Bool, cases_lt, eqb-true, leb-true, leb-false, ltb-true, le-leb, lt-leb, lt-ltb, eq-eqb, and_parts, and_from, cond-true, both_ways}
use Rattle.history.specs.declared.item.Item.{Item}
use Rattle.history.specs.Chain.{keep, some_item, last_item, starts_by, has_start, covers, starts_within, is_version, find_in, Ascends}
use Rattle.history.specs.Meaning.{version_at}
use Rattle.history.specs.Members.{◌∈◌, here, there}
use Rattle.history.proofs.Chains.{Sorted, FoundAt, find_is, ascends_sorted, ascends_apart, sorted_one}
use Rattle.history.proofs.Members.{some_from, some_is}
use Rattle.layout.specs.Layout.{item_at}
use Rattle.chained.specs.Edits.{last_by}

keep_none : (t : Item → Bool) (xs : List Item) → ((x : Item) → x ∈ xs → t x ≡ false) → keep t xs ≡ []
keep_none t [] f = refl
keep_none t (x ∷ xs) f = ap (λ b. cond b (x ∷ keep t xs) (keep t xs)) (f x here) ∙ keep_none t xs (λ y i. f y (there i))

last_found : (bs : List ℕ) (p k : ℕ) (ks : List ℕ) → Sorted (map (item_at bs) (k ∷ ks)) → last_item (item_at bs k ∷ keep (starts_by p) (map (item_at bs) ks)) ≡ Some (item_at bs (last_by bs p k ks))
last_found bs p k [] s = refl
last_found bs p k (n ∷ ns) s =
    ⊎_elim
    (λ t.
    ap (λ b. last_item (item_at bs k ∷ cond b (item_at bs n ∷ keep (starts_by p) (map (item_at bs) ns)) (keep (starts_by p) (map (item_at bs) ns)))) t
    ∙ last_found bs p n ns s.1
    ∙ ap (λ b. Some (item_at bs (cond b (last_by bs p n ns) k))) (sym t))
    (λ t.
    ap (λ xs. last_item (item_at bs k ∷ xs)) (keep_none (starts_by p) (map (item_at bs) (n ∷ ns)) (λ y i. lt-leb y.start p (later y i (leb-false _ _ t))))
    ∙ ap (λ b. Some (item_at bs (cond b (last_by bs p n ns) k))) (sym t))
    (cases_Bool (starts_by p (item_at bs n)))
  where
    later : (y : Item) → y ∈ map (item_at bs) (n ∷ ns) → p < (item_at bs n).start → p < y.start
    later y here l = l
    later y (there i) l = let q = s.1.0 y i in omega arith

pub found_last : (bs : List ℕ) (p k : ℕ) (ks : List ℕ) → Ascends (map (item_at bs) (k ∷ ks)) → (item_at bs k).start ≤ p → find_in (map (item_at bs) (k ∷ ks)) p ≡ Some (item_at bs (last_by bs p k ks))
found_last bs p k ks a l =
    ap last_item (cond-true (starts_by p (item_at bs k)) _ _ (le-leb _ _ l)) ∙ last_found bs p k ks (ascends_sorted (map (item_at bs) (k ∷ ks)) a)

-- what the item that is found at p tells of all
module _ (xs : List Item) (a : Ascends xs) (p : ℕ) (x : Item) (e : find_in xs p ≡ Some x) where
  sorted : Sorted xs
  sorted = ascends_sorted xs a

  found : FoundAt xs p x
  found = find_is xs p x sorted e

  tells : (t : Item → Bool) (b : Bool) → (b ≡ true → t x ≡ true) → ((y : Item) → y ∈ xs → t y ≡ true → b ≡ true) → some_item t xs ≡ b
  tells t true h k = some_from t x xs found.0 (h refl)
  tells t false h k =
      ⊎_elim (λ s. let r = some_is t xs s in absurd (both_ways false refl (k r.0 r.1 r.2))) (λ s. s) (cases_Bool (some_item t xs))

  -- an item that starts at x's start is x
  only : (y : Item) → y ∈ xs → y.start ≡ x.start → y ≡ x
  only y i q = sorted_one xs y x sorted i found.0 q

  pub start_tells : some_item (has_start p) xs ≡ eqb x.start p
  start_tells =
      tells (has_start p) (eqb x.start p) (λ h. h) (λ y i h. let q = eqb-true y.start p h in let g = found.2 y i (omega arith) in eq-eqb x.start p (omega (arith, found.1)))

  pub within_tells : (s : ℕ) → some_item (starts_within s p) xs ≡ ltb s x.start
  within_tells s =
      tells (starts_within s p) (ltb s x.start) (λ h. and_from _ _ h (le-leb _ _ found.1)) (λ y i h.
      let q = and_parts _ _ h in
      let l = ltb-true s y.start q.0 in
      let g = found.2 y i (leb-true _ _ q.1) in
      lt-ltb s x.start (omega arith))

  pub covers_tells : some_item (covers p) xs ≡ leb p x.«end»
  covers_tells =
      tells (covers p) (leb p x.«end») (λ h. and_from _ _ (le-leb _ _ found.1) h) (λ y i h.
      let q = and_parts _ _ h in
      let l = leb-true y.start p q.0 in
      let m = leb-true p y.«end» q.1 in
      let g = found.2 y i l in
      ⊎_elim
      (λ lt. absurd (let z = ascends_apart xs y x a i found.0 lt in let f = found.1 in omega arith))
      (λ le. subst (λ (z : Item). leb p z.«end» ≡ true) (only y i (omega arith)) q.1)
      (cases_lt y.start x.start))

  pub version_tells : version_at p xs ≡ (eqb x.start p && is_version x)
  version_tells =
      tells (λ y. has_start p y && is_version y) (eqb x.start p && is_version x) (λ h. h) (λ y i h.
      let q = eqb-true y.start p (and_parts _ _ h).0 in
      let g = found.2 y i (omega arith) in
      let f = found.1 in
      subst (λ (z : Item). (has_start p z && is_version z) ≡ true) (only y i (omega arith)) h)
