-- What a write into one record leaves of the others, and of its own fields.
use Rattle.std.proofs.Common.{◌≡◌, ℕ, ◌+◌, ◌*◌, ◌^◌, ◌<◌, ◌≤◌, Bool, true, cond, ◌&&◌, ◌||◌, eqb, ltb, leb, ◌⊎◌, List, length, sym, refl, ap, ◌∙◌, subst, inl, inr, ⊎_elim, arith}
use Rattle.std.proofs.lemmas.Bool.{cases_Bool, cases_lt, cases_eq, and_parts, and_from, or_cases, eqb-true, ltb-true, leb-true, le-leb, lt-ltb, cond-true, cond-false}
use Rattle.history.specs.declared.item.Item.{Item}
use Rattle.layout.specs.Field.{num, put_num}
use Rattle.layout.specs.Layout.{item_at, next_at, has_record}
use Rattle.layout.specs.Edits.{Changed, Freed, ended, marked, with_start, with_end, with_next, with_mark, with_number, with_item, with_free}
use Rattle.layout.proofs.Fields.{length_put_num, num_put_same, num_put_other}

pub has_parts : (bs : List ℕ) (k : ℕ) → has_record bs k ≡ true → (0 < k) × (32 * k + 32 ≤ length bs)
has_parts bs k h = let p = and_parts (ltb 0 k) (leb (32 * k + 32) (length bs)) h in (ltb-true _ _ p.0, leb-true _ _ p.1)

pub has_from : (bs : List ℕ) (k : ℕ) → 0 < k → 32 * k + 32 ≤ length bs → has_record bs k ≡ true
has_from bs k p l = and_from _ _ (lt-ltb _ _ p) (le-leb _ _ l)

pub same_item : {a b c d a' b' c' d' : ℕ} → a ≡ a' → b ≡ b' → c ≡ c' → d ≡ d' → ◌≡◌ {A = Item} (record { start = a; «end» = b; mark = c; number = d }) (record { start = a'; «end» = b'; mark = c'; number = d' })
same_item p q r s = cc

-- whether the n bytes at i are the w bytes at a, and whether they are apart
abbrev this : ℕ → ℕ → ℕ → ℕ → Bool
this a w i n = eqb a i && eqb w n

abbrev apart : ℕ → ℕ → ℕ → ℕ → Bool
apart a w i n = leb (i + n) a || leb (a + w) i

abbrev clear : ℕ → ℕ → ℕ → ℕ → Bool
clear a w i n = this a w i n || apart a w i n

-- whether the w bytes at a are one field of a record, and not of its padding
abbrev is_field : ℕ → ℕ → Bool
is_field a w = clear a w 0 8 && clear a w 8 8 && clear a w 16 2 && clear a w 18 1 && clear a w 24 8 && apart a w 19 5

places : (k at a w from i n : ℕ) → at ≡ 32 * k + a → from ≡ 32 * k + i → apart a w i n ≡ true → (from + n ≤ at) ⊎ (at + w ≤ from)
places k at a w from i n e f t =
    ⊎_elim (λ u. inl (omega (arith, leb-true (i + n) a u))) (λ u. inr (omega (arith, leb-true (a + w) i u))) (or_cases (leb (i + n) a) (leb (a + w) i) t)

-- a field of record k after a write of one of its fields
field_put : (bs : List ℕ) (k at a w v from i n : ℕ) → at ≡ 32 * k + a → from ≡ 32 * k + i → at + w ≤ length bs → v < 256 ^ w → clear a w i n ≡ true → num (put_num bs at w v) from n ≡ cond (this a w i n) v (num bs from n)
field_put bs k at a w v from i n e f l h t =
    ⊎_elim
    (λ s.
    let q = and_parts (eqb a i) (eqb w n) s in
    let x : from ≡ at = omega (arith, eqb-true a i q.0) in
    let y : n ≡ w = sym (eqb-true w n q.1) in
    let z : num (put_num bs at w v) from n ≡ v = rw (x, y) (num_put_same bs at w v l h) in
    z ∙ sym (cond-true _ _ _ s))
    (λ s. num_put_other bs at w v from n (places k at a w from i n e f (rw s at t)) ∙ sym (cond-false _ _ _ s))
    (cases_Bool (this a w i n))

-- the item after a write of v into the w bytes at a of its record
abbrev item_with : ℕ → ℕ → ℕ → Item → Item
item_with a w v x =
    record { start = cond (this a w 0 8) v x.start; «end» = cond (this a w 8 8) v x.«end»; mark = cond (this a w 18 1) v x.mark; number = cond (this a w 24 8) v x.number }

-- a write of one field of record k
changed : (bs : List ℕ) (k at a w v : ℕ) → at ≡ 32 * k + a → 0 < k → 32 * k + 32 ≤ length bs → a + w ≤ 32 → v < 256 ^ w → is_field a w ≡ true → Changed bs k (item_with a w v (item_at bs k)) (cond (this a w 16 2) v (next_at bs k)) (put_num bs at w v)
changed bs k at a w v e pos l s h t =
    let t19 = and_parts _ _ t in
    let t24 = and_parts _ _ t19.0 in
    let t18 = and_parts _ _ t24.0 in
    let t16 = and_parts _ _ t18.0 in
    let t8 = and_parts _ _ t16.0 in
    record {
      size = length_put_num bs at w v;
      head = λ from n b. num_put_other bs at w v from n (inl (omega arith));
      pads = λ j.
          ⊎_elim
          (λ q. num_put_other bs at w v (32 * j + 19) 5 (places j at a w (32 * j + 19) 19 5 (omega arith) refl t19.1))
          (λ ne. other j (32 * j + 19) 5 ne (omega arith) (omega arith))
          (cases_eq j k);
      items = λ j ne.
          same_item (other j (32 * j) 8 ne (omega arith) (omega arith)) (other j (32 * j + 8) 8 ne (omega arith) (omega arith))
          (other j (32 * j + 18) 1 ne (omega arith) (omega arith)) (other j (32 * j + 24) 8 ne (omega arith) (omega arith));
      nexts = λ j ne. other j (32 * j + 16) 2 ne (omega arith) (omega arith);
      item =
          same_item (field (32 * k) 0 8 (omega arith) t8.0) (field (32 * k + 8) 8 8 refl t8.1) (field (32 * k + 18) 18 1 refl t18.1) (field (32 * k + 24) 24 8 refl t24.1);
      link = field (32 * k + 16) 16 2 refl t16.1;
    }
  where
    field : (from i n : ℕ) → from ≡ 32 * k + i → clear a w i n ≡ true → num (put_num bs at w v) from n ≡ cond (this a w i n) v (num bs from n)
    field from i n f = field_put bs k at a w v from i n e f (omega arith) h

    other : (j from n : ℕ) → (j ≡ k → ⊥) → 32 * j ≤ from → from + n ≤ 32 * j + 32 → num (put_num bs at w v) from n ≡ num bs from n
    other j from n ne c d = num_put_other bs at w v from n (⊎_elim (λ b. inl (omega arith)) (λ b. inr (omega arith)) (cases_lt j k))

module _ (bs : List ℕ) (k : ℕ) (p : 0 < k) (l : 32 * k + 32 ≤ length bs) (v : ℕ) where
  start_put : v < 2 ^ 64 → Changed bs k (item_with 0 8 v (item_at bs k)) (next_at bs k) (with_start bs k v)
  start_put h = changed bs k (32 * k) 0 8 v (omega arith) p l (omega arith) h refl

  pub end_put : v < 2 ^ 64 → Changed bs k (ended v (item_at bs k)) (next_at bs k) (with_end bs k v)
  end_put h = changed bs k (32 * k + 8) 8 8 v refl p l (omega arith) h refl

  pub next_put : v < 2 ^ 16 → Changed bs k (item_at bs k) v (with_next bs k v)
  next_put h = changed bs k (32 * k + 16) 16 2 v refl p l (omega arith) h refl

  pub mark_put : v < 2 ^ 8 → Changed bs k (marked v (item_at bs k)) (next_at bs k) (with_mark bs k v)
  mark_put h = changed bs k (32 * k + 18) 18 1 v refl p l (omega arith) h refl

  number_put : v < 2 ^ 64 → Changed bs k (item_with 24 8 v (item_at bs k)) (next_at bs k) (with_number bs k v)
  number_put h = changed bs k (32 * k + 24) 24 8 v refl p l (omega arith) h refl

-- two changes of one record
pub changed_twice : {bs ds cs : List ℕ} {k : ℕ} {x y : Item} {n o : ℕ} → Changed bs k x n ds → Changed ds k y o cs → Changed bs k y o cs
changed_twice p q =
    record {
      size = q.size ∙ p.size;
      head = λ from n l. q.head from n l ∙ p.head from n l;
      pads = λ j. q.pads j ∙ p.pads j;
      items = λ j ne. q.items j ne ∙ p.items j ne;
      nexts = λ j ne. q.nexts j ne ∙ p.nexts j ne;
      item = q.item;
      link = q.link;
    }

pub item_put : (bs : List ℕ) (k : ℕ) (x : Item) → 0 < k → 32 * k + 32 ≤ length bs → x.start < 2 ^ 64 → x.«end» < 2 ^ 64 → x.mark < 2 ^ 8 → x.number < 2 ^ 64 → Changed bs k x (next_at bs k) (with_item bs k x)
item_put bs k x p l s e m n =
    let b1 : List ℕ = with_start bs k x.start in
    let b2 : List ℕ = with_end b1 k x.«end» in
    let b3 : List ℕ = with_mark b2 k x.mark in
    let c1 = start_put bs k p l x.start s in
    let c2 = end_put b1 k p (omega (arith, c1.size)) x.«end» e in
    let c3 = mark_put b2 k p (omega (arith, c1.size, c2.size)) x.mark m in
    let c4 = number_put b3 k p (omega (arith, c1.size, c2.size, c3.size)) x.number n in
    subst (λ o. Changed bs k x o (with_item bs k x)) (c3.link ∙ c2.link ∙ c1.link)
    (subst (λ y. Changed bs k y (next_at b3 k) (with_item bs k x)) (ap (item_with 24 8 x.number) (c3.item ∙ ap (marked x.mark) (c2.item ∙ ap (ended x.«end») c1.item)))
    (changed_twice c1 (changed_twice c2 (changed_twice c3 c4))))

pub free_put : (bs : List ℕ) (v : ℕ) → 10 ≤ length bs → v < 2 ^ 16 → Freed bs v (with_free bs v)
free_put bs v l h =
    record {
      size = length_put_num bs 8 2 v;
      before = λ from n b. num_put_other bs 8 2 v from n (inl (omega arith));
      after = λ from n a. num_put_other bs 8 2 v from n (inr (omega arith));
      first = num_put_same bs 8 2 v (omega arith) h;
    }
