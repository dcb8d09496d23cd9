-- That a history stays one: each accepted operation leaves a lawful chain.
use Rattle.std.proofs.Common.{◌≡◌, ℕ, ◌^◌, ◌<◌, ◌≤◌, Bool, false, not, ◌&&◌, ltb, List, [], ◌∷◌, map, sym, refl, ap, ◌∙◌, subst, ⊎_elim, arith}
use denote.Struct.Props.{props}
use Rattle.std.proofs.lemmas.Bool.{cond-true, cond-false, cond_both, cases_Bool, and_cases, eqb-true, eq-eqb, leb-false, ltb-true, ltb-false, both_ways, not_from_false}
use Rattle.history.specs.declared.item.Item.{Item}
use Rattle.history.specs.Chain.{keep, some_item, starts_within, has_start, is_version, covers, raise, seal_item, extends, seals, extend_in, seal_in, drop_in, put_in, Spanned, Beyond, Ascends, Lawful}
use Rattle.history.specs.Meaning.{version_at}
use Rattle.history.specs.Members.{◌∈◌, here, there}
use Rattle.history.proofs.Chains.{some_false, ascends_apart, ascends_spanned}

-- items changed in place: each keeps its start, and ends before any later one starts

module _ (f : Item → Item) (same : (x : Item) → (f x).start ≡ x.start) where
  abbrev Apart : List Item → Type 0
  Apart xs = (x : Item) → x ∈ xs → Spanned (f x) × ((y : Item) → y ∈ xs → x.start < y.start → (f x).«end» < y.start)

  beyond_map : (x : Item) (xs : List Item) → Apart (x ∷ xs) → Ascends (x ∷ xs) → Beyond (f x).«end» (map f xs)
  beyond_map x [] ap a = tt
  beyond_map x (y ∷ ys) ap a =
      subst (λ n. (f x).«end» < n) (sym (same y)) ((ap x here).1 y (there here) (omega (arith, a.0.0, a.1)))

  ascends_map : (xs : List Item) → Apart xs → Ascends xs → Ascends (map f xs)
  ascends_map [] ap a = tt
  ascends_map (x ∷ xs) ap a =
      ((ap x here).0, beyond_map x xs ap a, ascends_map xs (λ y i. ((ap y (there i)).0, λ z j. (ap y (there i)).1 z (there j))) a.2)

-- extend

pub extends_start : (s p : ℕ) (x : Item) → (extends s p x).start ≡ x.start
extends_start s p x = cond_both (has_start s x) (raise p x) x (λ y. y.start ≡ x.start) (λ e. refl) (λ e. refl)

extends_mark : (s p : ℕ) (x : Item) → (extends s p x).mark ≡ x.mark
extends_mark s p x = cond_both (has_start s x) (raise p x) x (λ y. y.mark ≡ x.mark) (λ e. refl) (λ e. refl)

after_p : (s p : ℕ) (xs : List Item) (y : Item) → some_item (starts_within s p) xs ≡ false → y ∈ xs → s < y.start → p < y.start
after_p s p xs y h i lt =
    ⊎_elim (λ f. absurd (let q = ltb-false s y.start f in omega arith)) (λ f. leb-false y.start p f) (and_cases _ _ (some_false (starts_within s p) xs y h i))

extends_apart : (xs : List Item) (s p : ℕ) → Ascends xs → p < 2 ^ 63 → some_item (starts_within s p) xs ≡ false → Apart (extends s p) (extends_start s p) xs
extends_apart xs s p a l h x i =
    let sp = ascends_spanned xs x a i in
    cond_both (has_start s x) (raise p x) x (λ z. Spanned z × ((y : Item) → y ∈ xs → x.start < y.start → z.«end» < y.start))
    (λ e. ((omega (arith, sp.0), omega (arith, sp.1), sp.2), λ y j lt. let q = ascends_apart xs x y a i j lt in let r = after_p s p xs y h j (let k = eqb-true x.start s e in omega arith) in omega arith))
    (λ e. (sp, λ y j lt. ascends_apart xs x y a i j lt))

pub lawful_extend : (xs : List Item) (s p : ℕ) → Lawful xs → p < 2 ^ 63 → some_item (starts_within s p) xs ≡ false → Lawful (extend_in xs s p)
lawful_extend [] s p a l h = elim a [ ]
lawful_extend (x ∷ xs) s p a l h =
    (extends_start s p x ∙ a.0, extends_mark s p x ∙ a.1, ascends_map (extends s p) (extends_start s p) (x ∷ xs) (extends_apart (x ∷ xs) s p a.2 l h) a.2)

-- seal

pub seals_start : (s : ℕ) (x : Item) → (seals s x).start ≡ x.start
seals_start s x = cond_both (has_start s x) (seal_item x) x (λ y. y.start ≡ x.start) (λ e. refl) (λ e. refl)

seals_mark : (s : ℕ) (x : Item) → (seals s x).mark ≤ x.mark
seals_mark s x = cond_both (has_start s x) (seal_item x) x (λ y. y.mark ≤ x.mark) (λ e. omega arith) (λ e. omega arith)

seals_apart : (xs : List Item) (s : ℕ) → Ascends xs → Apart (seals s) (seals_start s) xs
seals_apart xs s a x i =
    let sp = ascends_spanned xs x a i in
    cond_both (has_start s x) (seal_item x) x (λ z. Spanned z × ((y : Item) → y ∈ xs → x.start < y.start → z.«end» < y.start))
    (λ e. ((sp.0, sp.1, omega arith), λ y j lt. ascends_apart xs x y a i j lt))
    (λ e. (sp, λ y j lt. ascends_apart xs x y a i j lt))

pub lawful_seal : (xs : List Item) (s : ℕ) → Lawful xs → Lawful (seal_in xs s)
lawful_seal [] s a = elim a [ ]
lawful_seal (x ∷ xs) s a =
    (seals_start s x ∙ a.0, (let q = seals_mark s x in let r = a.1 in omega arith), ascends_map (seals s) (seals_start s) (x ∷ xs) (seals_apart (x ∷ xs) s a.2) a.2)

-- drop

beyond_less : (t u : ℕ) (ys : List Item) → t ≤ u → Beyond u ys → Beyond t ys
beyond_less t u [] l b = tt
beyond_less t u (y ∷ ys) l b = omega (arith, b)

beyond_keep : (t : Item → Bool) (u : ℕ) (xs : List Item) → Ascends xs → Beyond u xs → Beyond u (keep t xs)
beyond_keep t u [] a b = tt
beyond_keep t u (x ∷ xs) a b =
    cond_both (t x) (x ∷ keep t xs) (keep t xs) (λ l. Beyond u l) (λ e. b) (λ e. beyond_keep t u xs a.2 (beyond_less u x.«end» xs (omega (arith, b, a.0.0)) a.1))

ascends_keep : (t : Item → Bool) (xs : List Item) → Ascends xs → Ascends (keep t xs)
ascends_keep t [] a = tt
ascends_keep t (x ∷ xs) a =
    let tail = ascends_keep t xs a.2 in
    cond_both (t x) (x ∷ keep t xs) (keep t xs) Ascends (λ e. (a.0, beyond_keep t x.«end» xs a.2 a.1, tail)) (λ e. tail)

-- the first item, a version, is not dropped
pub first_stays : (s : ℕ) (x : Item) (xs : List Item) → Lawful (x ∷ xs) → version_at s (x ∷ xs) ≡ false → has_start s x ≡ false
first_stays s x xs a h =
    ⊎_elim (λ e. e) (λ e. absurd (both_ways (is_version x) e (eq-eqb x.mark 0 a.1))) (and_cases _ _ (some_false (λ y. has_start s y && is_version y) (x ∷ xs) x h here))

pub lawful_drop : (xs : List Item) (s : ℕ) → Lawful xs → version_at s xs ≡ false → Lawful (drop_in xs s)
lawful_drop [] s a h = elim a [ ]
lawful_drop (x ∷ xs) s a h =
    let stays = cond-true (not (has_start s x)) (x ∷ drop_in xs s) (drop_in xs s) (not_from_false (has_start s x) (first_stays s x xs a h)) in
    subst Lawful (sym stays) (a.0, a.1, subst Ascends stays (ascends_keep (λ y. not (has_start s y)) (x ∷ xs) a.2))

-- put

beyond_put : (t : ℕ) (xs : List Item) (new : Item) → t < new.start → Beyond t xs → Beyond t (put_in xs new)
beyond_put t [] new l b = l
beyond_put t (x ∷ xs) new l b =
    cond_both (ltb new.start x.start) (new ∷ (x ∷ xs)) (x ∷ put_in xs new) (λ ys. Beyond t ys) (λ e. l) (λ e. b)

ascends_put : (xs : List Item) (new : Item) → Ascends xs → Spanned new → new.start ≡ new.«end» → ((x : Item) → x ∈ xs → covers new.start x ≡ false) → Ascends (put_in xs new)
ascends_put [] new a sp one h = (sp, tt, tt)
ascends_put (x ∷ xs) new a sp one h =
    cond_both (ltb new.start x.start) (new ∷ (x ∷ xs)) (x ∷ put_in xs new) Ascends
    (λ e. (sp, (let q = ltb-true new.start x.start e in omega arith), a))
    (λ e. let q = ltb-false new.start x.start e in
    let after : x.«end» < new.start = ⊎_elim (λ f. absurd (let r = leb-false x.start new.start f in omega arith)) (λ f. leb-false new.start x.«end» f) (and_cases _ _ (h x here)) in
    (a.0, beyond_put x.«end» xs new after a.1, ascends_put xs new a.2 sp one (λ y i. h y (there i))))

pub lawful_put : (xs : List Item) (new : Item) → Lawful xs → Spanned new → new.start ≡ new.«end» → some_item (covers new.start) xs ≡ false → Lawful (put_in xs new)
lawful_put [] new a sp one h = elim a [ ]
lawful_put (x ∷ xs) new a sp one h =
    let first : ltb new.start x.start ≡ false = ⊎_elim (λ e. absurd (let q = ltb-true new.start x.start e in let z = a.0 in omega arith)) (λ e. e) (cases_Bool (ltb new.start x.start)) in
    let stays = cond-false (ltb new.start x.start) (new ∷ (x ∷ xs)) (x ∷ put_in xs new) first in
    subst Lawful (sym stays) (a.0, a.1, subst Ascends stays (ascends_put (x ∷ xs) new a.2 sp one (λ y i. some_false (covers new.start) (x ∷ xs) y h i)))

-- a history is lawful in one way at most

beyond_prop : (t : ℕ) (xs : List Item) → IsProp (Beyond t xs)
beyond_prop t [] = hlevel props
beyond_prop t (x ∷ xs) = hlevel props

ascends_prop : (xs : List Item) → IsProp (Ascends xs)
ascends_prop [] = hlevel props
ascends_prop (x ∷ xs) = let next = beyond_prop x.«end» xs in let tail = ascends_prop xs in hlevel props

pub lawful_prop : (xs : List Item) → IsProp (Lawful xs)
lawful_prop [] = hlevel props
lawful_prop (x ∷ xs) = let all = ascends_prop (x ∷ xs) in hlevel props
