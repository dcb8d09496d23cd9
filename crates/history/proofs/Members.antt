-- The test that a chain has an item, and how long a chain is.
use Rattle.std.proofs.Common.{◌≡◌, ℕ, ◌+◌, ◌≤◌, Bool, true, false, cond, not, ltb, List, [], ◌∷◌, length, sym, refl, ◌∙◌, subst, inl, inr, ⊎_elim, arith}
use Rattle.std.proofs.lemmas.Bool.{cond-true, cond-false, cond_both, cases_Bool, and_parts, and_from, eqb-true, eq-eqb, both_ways, not_from_true, not_from_false}
use Rattle.history.specs.declared.item.Item.{Item}
use Rattle.history.specs.Chain.{keep, some_item, has_start, drop_in, same_item, has_item, put_in}
use Rattle.history.specs.Members.{◌∈◌, here, there}
use Rattle.history.proofs.Lists.{split_in}

pub some_there : (t : Item → Bool) (y : Item) (ys : List Item) → some_item t ys ≡ true → some_item t (y ∷ ys) ≡ true
some_there t y ys h = elim (t y) as (λ b. cond b true (some_item t ys) ≡ true) [ true ↦ refl | false ↦ h ]

pub none_empty : (t : Item → Bool) → some_item t [] ≡ true → ⊥
none_empty t h = both_ways false refl h

-- some item passes a test exactly if one of the chain's does
pub some_from : (t : Item → Bool) (x : Item) (xs : List Item) → x ∈ xs → t x ≡ true → some_item t xs ≡ true
some_from t x [] i e = elim i [ ]
some_from t x (y ∷ ys) i e =
    elim (split_in i) [ inl p ↦ cond-true (t y) _ _ (subst (λ z. t z ≡ true) p e) | inr j ↦ some_there t y ys (some_from t x ys j e) ]

pub some_is : (t : Item → Bool) (xs : List Item) → some_item t xs ≡ true → (x : Item) × (x ∈ xs) × (t x ≡ true)
some_is t [] h = absurd (none_empty t h)
some_is t (y ∷ ys) h =
    ⊎_elim (λ e. (y, here, e)) (λ e. let r = some_is t ys (sym (cond-false (t y) _ _ e) ∙ h) in (r.0, there r.1, r.2)) (cases_Bool (t y))

-- and a chain has an item exactly if it is one of the chain's
same_item_refl : (x : Item) → same_item x x ≡ true
same_item_refl x =
    and_from _ _ (eq-eqb x.start _ refl) (and_from _ _ (eq-eqb x.«end» _ refl) (and_from _ _ (eq-eqb x.mark _ refl) (eq-eqb x.number _ refl)))

same_item_eq : (x y : Item) → same_item x y ≡ true → x ≡ y
same_item_eq x y h =
    let p = and_parts _ _ h in
    let q = and_parts _ _ p.1 in
    let r = and_parts _ _ q.1 in
    let a = eqb-true x.start y.start p.0 in
    let b = eqb-true x.«end» y.«end» q.0 in
    let c = eqb-true x.mark y.mark r.0 in
    let d = eqb-true x.number y.number r.1 in λ j. record { start = a j; «end» = b j; mark = c j; number = d j }

pub has_from : (x : Item) (xs : List Item) → x ∈ xs → has_item x xs ≡ true
has_from x xs i = some_from (same_item x) x xs i (same_item_refl x)

pub has_is : (x : Item) (xs : List Item) → has_item x xs ≡ true → x ∈ xs
has_is x xs h =
    let r = some_is (same_item x) xs h in subst (λ y. y ∈ xs) (sym (same_item_eq x r.0 r.2)) r.1

-- how long a chain is after a put or a drop
pub length_put : (xs : List Item) (new : Item) → length (put_in xs new) ≡ length xs + 1
length_put [] new = refl
length_put (x ∷ xs) new =
    cond_both (ltb new.start x.start) (new ∷ (x ∷ xs)) (x ∷ put_in xs new) (λ l. length l ≡ length (x ∷ xs) + 1) (λ e. omega arith) (λ e. let n = length_put xs new in omega arith)

length_keep : (t : Item → Bool) (xs : List Item) → length (keep t xs) ≤ length xs
length_keep t [] = omega arith
length_keep t (x ∷ xs) =
    let n = length_keep t xs in
    cond_both (t x) (x ∷ keep t xs) (keep t xs) (λ l. length l ≤ length (x ∷ xs)) (λ e. omega arith) (λ e. omega arith)

pub length_drop : (xs : List Item) (s : ℕ) → some_item (has_start s) xs ≡ true → length (drop_in xs s) + 1 ≤ length xs
length_drop [] s h = absurd (none_empty (has_start s) h)
length_drop (x ∷ xs) s h =
    let n = length_keep (λ y. not (has_start s y)) xs in
    ⊎_elim
    (λ e. subst (λ l. length l + 1 ≤ length (x ∷ xs)) (sym (cond-false (not (has_start s x)) (x ∷ drop_in xs s) (drop_in xs s) (not_from_true _ e))) (omega arith))
    (λ e. let r = length_drop xs s (sym (cond-false (has_start s x) true (some_item (has_start s) xs) e) ∙ h) in subst (λ l. length l + 1 ≤ length (x ∷ xs)) (sym (cond-true (not (has_start s x)) (x ∷ drop_in xs s) (drop_in xs s) (not_from_false _ e))) (omega arith))
    (cases_Bool (has_start s x))
