-- Chains: membership, order, and what is found.
use Rattle.std.proofs.Common.{◌≡◌, ℕ, ◌<◌, ◌≤◌, Bool, true, false, cond, ltb, leb, ◌⊎◌, List, [], ◌∷◌, ◌++◌, Some, None, Option, sym, refl, ap, ◌∙◌, subst, inl, inr, arith, ltb-false, ltb-true, eq-eqb, le-leb, leb-false, leb-true}
use Rattle.std.proofs.lemmas.Bool.{and_cases, cond-true, cond_both, both_ways}
use Rattle.history.specs.declared.item.Item.{Item}
use Rattle.history.specs.Chain.{keep, some_item, last_item, is_version, starts_by, covers, find_in, put_in, Spanned, Beyond, Ascends, Lawful}
use Rattle.history.specs.Members.{◌∈◌, here, there}
use Rattle.history.proofs.Lists.{split_in, in_right, in_left, of_append}

start_is : {x y : Item} → x ≡ y → x.start ≡ y.start
start_is e = ap (λ (r : Item). r.start) e

-- what passes a test

pub in_keep : (t : Item → Bool) (x : Item) (xs : List Item) → x ∈ xs → t x ≡ true → x ∈ keep t xs
in_keep t x [] i e = elim i [ ]
in_keep t x (y ∷ ys) i e = elim (split_in i) [
  | inl p ↦ subst (λ l. x ∈ l) (sym (cond-true (t y) (y ∷ keep t ys) (keep t ys) (subst (λ z. t z ≡ true) p e))) (subst (λ z. x ∈ (z ∷ keep t ys)) p here)
  | inr j ↦ cond_both (t y) (y ∷ keep t ys) (keep t ys) (λ l. x ∈ l) (λ _. there (in_keep t x ys j e)) (λ _. in_keep t x ys j e)
]

pub of_keep : (t : Item → Bool) (x : Item) (xs : List Item) → x ∈ keep t xs → (x ∈ xs) × (t x ≡ true)
of_keep t x [] i = elim i [ ]
of_keep t x (y ∷ ys) i = go (of_keep t x ys) (t y) refl i
  where
    rest : (x ∈ keep t ys → (x ∈ ys) × (t x ≡ true)) → x ∈ keep t ys → (x ∈ (y ∷ ys)) × (t x ≡ true)
    rest f j = let r = f j in (there r.0, r.1)

    go : (x ∈ keep t ys → (x ∈ ys) × (t x ≡ true)) → (b : Bool) → t y ≡ b → x ∈ cond b (y ∷ keep t ys) (keep t ys) → (x ∈ (y ∷ ys)) × (t x ≡ true)
    go f true e j = elim (split_in j) [ inl p ↦ (subst (λ z. z ∈ (y ∷ ys)) (sym p) here, subst (λ z. t z ≡ true) (sym p) e) | inr k ↦ rest f k ]
    go f false e j = rest f j

pub keep_all : (t : Item → Bool) (xs : List Item) → ((x : Item) → x ∈ xs → t x ≡ true) → keep t xs ≡ xs
keep_all t [] f = refl
keep_all t (x ∷ xs) f = cond-true (t x) (x ∷ keep t xs) (keep t xs) (f x here) ∙ ap (λ (l : List Item). x ∷ l) (keep_all t xs (λ y i. f y (there i)))

pub keep_same : (t u : Item → Bool) (xs : List Item) → ((x : Item) → t x ≡ u x) → keep t xs ≡ keep u xs
keep_same t u [] f = refl
keep_same t u (x ∷ xs) f =
    ap (λ (l : List Item). cond (t x) (x ∷ l) l) (keep_same t u xs f) ∙ ap (λ (b : Bool). cond b (x ∷ keep u xs) (keep u xs)) (f x)

pub some_false : (t : Item → Bool) (xs : List Item) (x : Item) → some_item t xs ≡ false → x ∈ xs → t x ≡ false
some_false t [] x e i = elim i [ ]
some_false t (y ∷ ys) x e i = go (some_false t ys x) (t y) refl e
  where
    go : (some_item t ys ≡ false → x ∈ ys → t x ≡ false) → (b : Bool) → t y ≡ b → cond b true (some_item t ys) ≡ false → t x ≡ false
    go f true p q = absurd (both_ways true q refl)
    go f false p q = elim (split_in i) [ inl r ↦ ap t r ∙ p | inr j ↦ f q j ]

-- ascending starts

abbrev pub Sorted : List Item → Type 0
Sorted [] = Unit {0}
Sorted (x ∷ xs) = ((y : Item) → y ∈ xs → x.start < y.start) × Sorted xs

-- all that follows starts after t
beyond_all : (t : ℕ) (xs : List Item) (y : Item) → Beyond t xs → Ascends xs → y ∈ xs → t < y.start
beyond_all t [] y b a i = elim i [ ]
beyond_all t (x ∷ xs) y b a i = elim (split_in i) [
  | inl p ↦ (let q = start_is p in omega (arith, b))
  | inr j ↦ (let q = beyond_all x.«end» xs y a.1 a.2 j in omega (arith, b, a.0.0))
]

pub ascends_sorted : (xs : List Item) → Ascends xs → Sorted xs
ascends_sorted [] a = tt
ascends_sorted (x ∷ xs) a =
    ((λ y i. let q = beyond_all x.«end» xs y a.1 a.2 i in omega (arith, a.0.0)), ascends_sorted xs a.2)

pub lawful_ascends : (xs : List Item) → Lawful xs → Ascends xs
lawful_ascends [] l = tt
lawful_ascends (x ∷ xs) l = l.2

pub lawful_sorted : (xs : List Item) → Lawful xs → Sorted xs
lawful_sorted xs l = ascends_sorted xs (lawful_ascends xs l)

pub ascends_spanned : (xs : List Item) (x : Item) → Ascends xs → x ∈ xs → Spanned x
ascends_spanned [] x a i = elim i [ ]
ascends_spanned (y ∷ ys) x a i = elim (split_in i) [ inl p ↦ subst Spanned (sym p) a.0 | inr j ↦ ascends_spanned ys x a.2 j ]

pub lawful_span : (xs : List Item) (x : Item) → Lawful xs → x ∈ xs → x.start ≤ x.«end»
lawful_span xs x l i = (ascends_spanned xs x (lawful_ascends xs l) i).0

-- an item ends before any later one starts
pub ascends_apart : (xs : List Item) (x y : Item) → Ascends xs → x ∈ xs → y ∈ xs → x.start < y.start → x.«end» < y.start
ascends_apart [] x y a i j lt = elim i [ ]
ascends_apart (z ∷ zs) x y a i j lt = elim (split_in i) [
  | inl p ↦ elim (split_in j) [
    | inl q ↦ absurd (let u = start_is p in let v = start_is q in omega arith)
    | inr l ↦ subst (λ (w : Item). w.«end» < y.start) (sym p) (beyond_all z.«end» zs y a.1 a.2 l)
  ]
  | inr k ↦ elim (split_in j) [
    | inl q ↦ absurd (let u = start_is q in let v = beyond_all z.«end» zs x a.1 a.2 k in omega (arith, a.0.0))
    | inr l ↦ ascends_apart zs x y a.2 k l lt
  ]
]

pub keep_sorted : (t : Item → Bool) (xs : List Item) → Sorted xs → Sorted (keep t xs)
keep_sorted t [] s = tt
keep_sorted t (x ∷ xs) s = cond_both (t x) (x ∷ keep t xs) (keep t xs) Sorted (λ _. ((λ y i. s.0 y (of_keep t y xs i).0), keep_sorted t xs s.1)) (λ _. keep_sorted t xs s.1)

-- a start names one item
pub sorted_one : (xs : List Item) (x y : Item) → Sorted xs → x ∈ xs → y ∈ xs → x.start ≡ y.start → x ≡ y
sorted_one [] x y s i j e = elim i [ ]
sorted_one (z ∷ zs) x y s i j e = elim (split_in i) [
  | inl p ↦ elim (split_in j) [
    | inl q ↦ p ∙ sym q
    | inr l ↦ absurd (let k = s.0 y l in let r = start_is p in omega arith)
  ]
  | inr l ↦ elim (split_in j) [
    | inl q ↦ absurd (let k = s.0 x l in let r = start_is q in omega arith)
    | inr m ↦ sorted_one zs x y s.1 l m e
  ]
]

-- the last item

pub record Last (xs : List Item) : Type 0 where
  pub item : Item
  pub is : last_item xs ≡ Some item
  pub inside : item ∈ xs
  pub greatest : (y : Item) → y ∈ xs → y.start ≤ item.start

pub last_of : (x : Item) (xs : List Item) → Sorted (x ∷ xs) → Last (x ∷ xs)
last_of x [] s = record { item = x; is = refl; inside = here; greatest = λ y i. elim (split_in i) [ inl p ↦ (let q = start_is p in omega arith) | inr j ↦ elim j [ ] ] }
last_of x (y ∷ ys) s =
    let r = last_of y ys s.1 in
    record {
      item = r.item;
      is = r.is;
      inside = there r.inside;
      greatest = λ z i. elim (split_in i) [ inl p ↦ (let q = start_is p in let k = s.0 r.item r.inside in omega arith) | inr j ↦ r.greatest z j ];
    }

pub last_some : (x : Item) (xs : List Item) → x ∈ xs → Sorted xs → Last xs
last_some x [] i s = elim i [ ]
last_some x (y ∷ ys) i s = last_of y ys s

pub lawful_last : (xs : List Item) → Lawful xs → Last xs
lawful_last [] l = absurd l
lawful_last (x ∷ xs) l = last_of x xs (lawful_sorted (x ∷ xs) l)

pub lawful_version : (xs : List Item) → Lawful xs → Last (keep is_version xs)
lawful_version [] l = absurd l
lawful_version (x ∷ xs) l = last_some x (keep is_version (x ∷ xs)) (in_keep is_version x (x ∷ xs) here (eq-eqb x.mark 0 l.1)) (keep_sorted is_version (x ∷ xs) (lawful_sorted (x ∷ xs) l))

pub none_some : (x : Item) → ◌≡◌ {A = Option Item} None (Some x) → ⊥
none_some x e = let z : ◌≡◌ {A = ℕ} 0 1 = cc in omega arith

pub some_same : (x y : Item) → ◌≡◌ {A = Option Item} (Some x) (Some y) → x ≡ y
some_same x y e = cc

pub last_in : (xs : List Item) (x : Item) → last_item xs ≡ Some x → x ∈ xs
last_in [] x e = absurd (none_some x e)
last_in (y ∷ []) x e = subst (λ z. z ∈ (y ∷ [])) (some_same y x e) here
last_in (y ∷ (z ∷ zs)) x e = there (last_in (z ∷ zs) x e)

pub last_is : (xs : List Item) (x : Item) → Sorted xs → last_item xs ≡ Some x → (x ∈ xs) × ((y : Item) → y ∈ xs → y.start ≤ x.start)
last_is [] x s e = absurd (none_some x e)
last_is (y ∷ ys) x s e =
    let r = last_of y ys s in
    let q : r.item ≡ x = some_same r.item x (sym r.is ∙ e) in
    (subst (λ z. z ∈ (y ∷ ys)) q r.inside, subst (λ (z : Item). (y' : Item) → y' ∈ (y ∷ ys) → y'.start ≤ z.start) q r.greatest)

pub found_in : (xs : List Item) (p : ℕ) (x : Item) → find_in xs p ≡ Some x → x ∈ xs
found_in xs p x e = (of_keep (starts_by p) x xs (last_in (keep (starts_by p) xs) x e)).0

-- what find answers: of the items that start by p, the one with the greatest start

abbrev pub FoundAt : List Item → ℕ → Item → Type 0
FoundAt xs p x = (x ∈ xs) × (x.start ≤ p) × ((y : Item) → y ∈ xs → y.start ≤ p → y.start ≤ x.start)

pub find_is : (xs : List Item) (p : ℕ) (x : Item) → Sorted xs → find_in xs p ≡ Some x → FoundAt xs p x
find_is xs p x s e =
    let r = last_is (keep (starts_by p) xs) x (keep_sorted (starts_by p) xs s) e in
    let q = of_keep (starts_by p) x xs r.0 in
    (q.0, leb-true x.start p q.1, λ y i le. r.1 y (in_keep (starts_by p) y xs i (le-leb y.start p le)))

pub find_from : (xs : List Item) (p : ℕ) (x : Item) → Sorted xs → FoundAt xs p x → find_in xs p ≡ Some x
find_from xs p x s f =
    let inside = in_keep (starts_by p) x xs f.0 (le-leb x.start p f.1) in
    let l = last_some x (keep (starts_by p) xs) inside (keep_sorted (starts_by p) xs s) in
    let q = of_keep (starts_by p) l.item xs l.inside in
    let above = f.2 l.item q.0 (leb-true l.item.start p q.1) in
    let below = l.greatest x inside in
    l.is ∙ ap Some (sorted_one xs l.item x s q.0 f.0 (omega arith))

-- an item starts by any time, so that find never answers nothing
pub find_some : (xs : List Item) (p : ℕ) → Lawful xs → (x : Item) × (find_in xs p ≡ Some x)
find_some [] p l = absurd l
find_some (x ∷ xs) p l =
    let first = in_keep (starts_by p) x (x ∷ xs) here (le-leb x.start p (let z = l.0 in omega arith)) in
    let r = last_some x (keep (starts_by p) (x ∷ xs)) first (keep_sorted (starts_by p) (x ∷ xs) (lawful_sorted (x ∷ xs) l)) in
    (r.item, r.is)

-- the item whose span has a time is the one found there
pub found_covering : (xs : List Item) (p : ℕ) (x : Item) → Ascends xs → x ∈ xs → x.start ≤ p → p ≤ x.«end» → find_in xs p ≡ Some x
found_covering xs p x a i from to =
    find_from xs p x (ascends_sorted xs a) (i, from, λ y j le. below y j le (ltb x.start y.start) refl)
  where
    below : (y : Item) → y ∈ xs → y.start ≤ p → (b : Bool) → ltb x.start y.start ≡ b → y.start ≤ x.start
    below y j le true e = absurd (let k = ascends_apart xs x y a i j (ltb-true x.start y.start e) in omega arith)
    below y j le false e = ltb-false x.start y.start e

-- put

pub of_put : (xs : List Item) (new x : Item) → x ∈ put_in xs new → (x ∈ xs) ⊎ (x ≡ new)
of_put [] new x i = elim (split_in i) [ inl p ↦ inr p | inr j ↦ elim j [ ] ]
of_put (y ∷ ys) new x i = go (of_put ys new x) (ltb new.start y.start) i
  where
    go : (x ∈ put_in ys new → (x ∈ ys) ⊎ (x ≡ new)) → (b : Bool) → x ∈ cond b (new ∷ (y ∷ ys)) (y ∷ put_in ys new) → (x ∈ (y ∷ ys)) ⊎ (x ≡ new)
    go f true j = elim (split_in j) [ inl p ↦ inr p | inr k ↦ inl k ]
    go f false j = elim (split_in j) [ inl p ↦ inl (subst (λ z. z ∈ (y ∷ ys)) (sym p) here) | inr k ↦ elim (f k) [ inl l ↦ inl (there l) | inr e ↦ inr e ] ]

pub in_put_new : (xs : List Item) (new : Item) → new ∈ put_in xs new
in_put_new [] new = here
in_put_new (y ∷ ys) new = cond_both (ltb new.start y.start) (new ∷ (y ∷ ys)) (y ∷ put_in ys new) (λ l. new ∈ l) (λ _. here) (λ _. there (in_put_new ys new))

pub in_put_old : (xs : List Item) (new x : Item) → x ∈ xs → x ∈ put_in xs new
in_put_old [] new x i = elim i [ ]
in_put_old (y ∷ ys) new x i = cond_both (ltb new.start y.start) (new ∷ (y ∷ ys)) (y ∷ put_in ys new) (λ l. x ∈ l) (λ _. there i)
    (λ _. elim (split_in i) [ inl p ↦ subst (λ z. z ∈ (y ∷ put_in ys new)) (sym p) here | inr j ↦ there (in_put_old ys new x j) ])

pub uncovered : (xs : List Item) (p : ℕ) (x : Item) → some_item (covers p) xs ≡ false → x ∈ xs → (p < x.start) ⊎ (x.«end» < p)
uncovered xs p x e i = elim (and_cases (leb x.start p) (leb p x.«end») (some_false (covers p) xs x e i)) [
  | inl a ↦ inl (leb-false x.start p a)
  | inr b ↦ inr (leb-false p x.«end» b)
]

-- around an item of a sorted list

pub sorted_pre : (pre xs : List Item) (x y : Item) → Sorted (pre ++ (x ∷ xs)) → y ∈ pre → y.start < x.start
sorted_pre [] xs x y s i = elim i [ ]
sorted_pre (z ∷ pre) xs x y s i = elim (split_in i) [
  | inl p ↦ (let q = start_is p in let k = s.0 x (in_right pre here) in omega arith)
  | inr j ↦ sorted_pre pre xs x y s.1 j
]

pub sorted_post : (pre xs : List Item) (x y : Item) → Sorted (pre ++ (x ∷ xs)) → y ∈ xs → x.start < y.start
sorted_post [] xs x y s i = s.0 y i
sorted_post (z ∷ pre) xs x y s i = sorted_post pre xs x y s.1 i

pub sorted_drop : (pre xs : List Item) (x : Item) → Sorted (pre ++ (x ∷ xs)) → Sorted (pre ++ xs)
sorted_drop [] xs x s = s.1
sorted_drop (z ∷ pre) xs x s = ((λ y i. s.0 y (elim (of_append pre xs y i) [ inl j ↦ in_left pre (x ∷ xs) y j | inr j ↦ in_right pre (there j) ])), sorted_drop pre xs x s.1)

pub sorted_swap : (pre xs : List Item) (x x' : Item) → x'.start ≡ x.start → Sorted (pre ++ (x ∷ xs)) → Sorted (pre ++ (x' ∷ xs))
sorted_swap [] xs x x' e s = ((λ y i. let k = s.0 y i in omega arith), s.1)
sorted_swap (z ∷ pre) xs x x' e s = (
  (λ y i. elim (of_append pre (x' ∷ xs) y i) [
    | inl j ↦ s.0 y (in_left pre (x ∷ xs) y j)
    | inr j ↦ elim (split_in j) [ inl p ↦ (let q = start_is p in let k = s.0 x (in_right pre here) in omega arith) | inr l ↦ s.0 y (in_right pre (there l)) ]
  ]),
  sorted_swap pre xs x x' e s.1,
)
