-- The rules of a history, decided.
use Rattle.std.proofs.Common.{◌≡◌, ℕ, true, List, [], ◌∷◌, refl}
use Rattle.std.proofs.lemmas.Bool.{eqb-true, leb-true, ltb-true, le-leb, lt-ltb, eq-eqb, and_parts, and_from, false≢true}
use Rattle.history.specs.declared.item.Item.{Item}
use Rattle.history.specs.Chain.{Spanned, Beyond, Ascends, Lawful}
use Rattle.layout.specs.Layout.{spanned, beyond, ascends, history}

spanned_parts : (x : Item) → spanned x ≡ true → Spanned x
spanned_parts x h =
    let b = and_parts _ _ h in
    let a = and_parts _ _ b.0 in
    (leb-true _ _ a.0, ltb-true _ _ a.1, leb-true _ _ b.1)

beyond_parts : (t : ℕ) (xs : List Item) → beyond t xs ≡ true → Beyond t xs
beyond_parts t [] h = tt
beyond_parts t (y ∷ ys) h = ltb-true _ _ h

beyond_from : (t : ℕ) (xs : List Item) → Beyond t xs → beyond t xs ≡ true
beyond_from t [] h = refl
beyond_from t (y ∷ ys) h = lt-ltb _ _ h

pub ascends_parts : (xs : List Item) → ascends xs ≡ true → Ascends xs
ascends_parts [] h = tt
ascends_parts (x ∷ xs) h =
    let b = and_parts _ _ h in
    let a = and_parts _ _ b.0 in
    (spanned_parts x a.0, beyond_parts _ xs a.1, ascends_parts xs b.1)

pub ascends_from : (xs : List Item) → Ascends xs → ascends xs ≡ true
ascends_from [] h = refl
ascends_from (x ∷ xs) h =
    and_from _ _ (and_from _ _ (and_from _ _ (and_from _ _ (le-leb _ _ h.0.0) (lt-ltb _ _ h.0.1)) (le-leb _ _ h.0.2)) (beyond_from _ xs h.1)) (ascends_from xs h.2)

pub history_parts : (xs : List Item) → history xs ≡ true → Lawful xs
history_parts [] h = false≢true h
history_parts (x ∷ xs) h =
    let b = and_parts _ _ h in
    let a = and_parts _ _ b.0 in
    (eqb-true _ _ a.0, eqb-true _ _ a.1, ascends_parts (x ∷ xs) b.1)

pub history_from : (xs : List Item) → Lawful xs → history xs ≡ true
history_from [] h = absurd h
history_from (x ∷ xs) h = and_from _ _ (and_from _ _ (eq-eqb _ _ h.0) (eq-eqb _ _ h.1)) (ascends_from (x ∷ xs) h.2)
