-- What std's words say of a chain.
use Rattle.std.proofs.Common.{◌≡◌, ℕ, zero, suc, ◌+◌, Bool, true, false, cond, not, ◌||◌, List, [], ◌∷◌, map, Some, None, Option, sym, refl, ap, ◌∙◌, reverse, subst, arith, Iter, length, get_or, ltb, ⊎_elim, ◌<◌, ◌≤◌}
use Rattle.std.proofs.lemmas.Fn.{fronts}
use Rattle.std.proofs.lemmas.Iterator.{YieldsList-from_slice}
use Rattle.std.proofs.lemmas.Iterator.Adapters.{YieldsList-from_rev_slice}
use Rattle.std.proofs.lemmas.Iterator.Search.{any_from_yields_List, find_from_yields_List, position_from_yields_List}
use Rattle.std.proofs.lemmas.Bool.{cases_lt, cond-true, cond-false, lt-ltb, le-ltb}
use Rattle.std.proofs.lemmas.List.{reverse-append, length-map}
use Rattle.std.proofs.lemmas.List.Sums.{prefix_len-le-length}
use Rattle.std.proofs.lemmas.List.Folds.{find-append}
use Rattle.std.specs.Bool.{⊤}
use Rattle.std.specs.declared.iter.Rev.{Rev}
use Rattle.std.specs.Fn.{Called, CalledAt}
use Rattle.std.specs.Iterator.{YieldsThen}
use Rattle.std.specs.Iterator.Adapters.{rev_source, rev_steps}
use Rattle.std.specs.List.{list_any, filter, find, insert, position_or_len, FoldsTo, AllZip, HoldsAt}
use Rattle.std.specs.List.Retain.{RetainsInTurn}
use Rattle.std.specs.Option.{MatchOption, option_or, option_map, unwrap_or}
use Rattle.std.specs.Slice.Iter.{iter_rest, iter_steps_back}
use denote.Param.Members.{Mut}
use denote.Ref.{Bor}
use Rattle.arrayvec.specs.ArrayVec.{ArrayVec, with_items}
use Rattle.arrayvec.proofs.ArrayVecLemmas.{items-with_items, filter-from_retain}
use Rattle.history.specs.declared.item.Item.{Item}
use Rattle.history.specs.Chain.{keep, some_item, last_item, nth_item, starts_by, has_start, find_in, put_in, drop_in}

some_is_any : (t : Item → Bool) (xs : List Item) → list_any t xs ≡ some_item t xs
some_is_any t [] = refl
some_is_any t (x ∷ xs) = ap (λ b. t x || b) (some_is_any t xs) ∙ by (t x)
  where
    by : (b : Bool) → (b || some_item t xs) ≡ cond b true (some_item t xs)
    by true = refl
    by false = refl

keep_is_filter : (t : Item → Bool) (xs : List Item) → filter t xs ≡ keep t xs
keep_is_filter t [] = refl
keep_is_filter t (x ∷ xs) = ap (λ (ys : List Item). cond (t x) (x ∷ ys) ys) (keep_is_filter t xs)

last_or : (x : Item) (xs : List Item) → last_item (x ∷ xs) ≡ option_or (last_item xs) (Some x)
last_or x [] = refl
last_or x (y ∷ ys) =
    let e = last_or y ys in e ∙ by (last_item ys) ∙ sym (ap (λ (o : Option Item). option_or o (Some x)) e)
  where
    by : (o : Option Item) → option_or o (Some y) ≡ option_or (option_or o (Some y)) (Some x)
    by None = refl
    by (Some z) = refl

last_is_find : (t : Item → Bool) (xs : List Item) → find t (reverse xs) ≡ last_item (keep t xs)
last_is_find t [] = refl
last_is_find t (x ∷ xs) =
    ap (find t) (reverse-append (x ∷ []) xs) ∙ find-append t (reverse xs) (x ∷ []) ∙ ap (λ (o : Option Item). option_or o (find t (x ∷ []))) (last_is_find t xs) ∙ by (t x)
  where
    by : (b : Bool) → option_or (last_item (keep t xs)) (cond b (Some x) None) ≡ last_item (cond b (x ∷ keep t xs) (keep t xs))
    by true = sym (last_or x (keep t xs))
    by false = or_none (last_item (keep t xs))
      where
        or_none : (o : Option Item) → option_or o None ≡ o
        or_none None = refl
        or_none (Some y) = refl

-- the item starts after the new one
abbrev above : Item → Item → Bool
above new x = ltb new.start x.start

put_is_insert : (xs : List Item) (new : Item) → insert xs (position_or_len (above new) xs) new ≡ put_in xs new
put_is_insert [] new = refl
put_is_insert (x ∷ xs) new = by (above new x) ∙ ap (λ (ys : List Item). cond (above new x) (new ∷ (x ∷ xs)) (x ∷ ys)) (put_is_insert xs new)
  where
    by : (b : Bool) → insert (x ∷ xs) (cond (not b) (1 + position_or_len (above new) xs) 0) new ≡ cond b (new ∷ (x ∷ xs)) (x ∷ insert xs (position_or_len (above new) xs) new)
    by true = refl
    by false = let next : 1 + position_or_len (above new) xs ≡ suc (position_or_len (above new) xs) = omega arith in ap (λ (k : ℕ). insert (x ∷ xs) k new) next

-- what the calls of a closure tell

pub some_from_any : {F : Type 0} {g : Mut F (Bor Item × Unit {0}) Bool} {s : Iter Item} (t : Item → Bool) (xs : List Item) → iter_rest s ≡ xs
    → (u : Iter Item) (f : F) (r : Bool)
    → (ys : List (Bor Item)) × (o : Option (Bor Item)) × (j : F) × YieldsThen fronts s ys o u × FoldsTo (λ p y q. Called g p (y, tt) false q) f ys j × MatchOption o (r ≡ false) (λ y. (r ≡ true) × ((h : F) × Called g j (y, tt) true h))
    → ((y : Bor Item) (b : Bool) (q : F) → Called g f (y, tt) b q → (q ≡ f) × (b ≡ t y.now))
    → r ≡ some_item t xs
some_from_any t xs road u f r ran says =
    any_from_yields_List t u f r ran (YieldsList-from_slice xs road) says ∙ some_is_any t xs

pub found_from_find : {F : Type 0} {g : Mut F (Bor (Bor Item) × Unit {0}) Bool} {s : Rev (Iter Item)} (p : ℕ) (xs : List Item) → iter_rest (rev_source s) ≡ xs
    → (u : Rev (Iter Item)) (f : F) (r : Option (Bor Item))
    → (ys : List (Bor Item)) × (j : F) × YieldsThen (rev_steps iter_steps_back) s ys r u × FoldsTo (λ a y q. CalledAt g a y false q) f ys j × MatchOption r ⊤ (λ y. (h : F) × CalledAt g j y true h)
    → ((y : Bor Item) (b : Bool) (q : F) → CalledAt g f y b q → (q ≡ f) × (b ≡ starts_by p y.now))
    → option_map (λ y. y.now) r ≡ find_in xs p
found_from_find p xs road u f r ran says =
    find_from_yields_List (starts_by p) u f r ran (YieldsList-from_rev_slice xs road) says ∙ last_is_find (starts_by p) xs

-- the item at a place

nth_there : (xs : List Item) (k : ℕ) (d : Item) → k < length xs → nth_item xs k ≡ Some (get_or xs k d)
nth_there [] k d h = absurd (omega arith)
nth_there (x ∷ xs) zero d h = refl
nth_there (x ∷ xs) (suc k) d h = nth_there xs k d (omega arith)

nth_past : (xs : List Item) (k : ℕ) → length xs ≤ k → nth_item xs k ≡ None
nth_past [] k h = refl
nth_past (x ∷ xs) zero h = absurd (omega arith)
nth_past (x ∷ xs) (suc k) h = nth_past xs k (omega arith)

pub nth_from_get : (xs zs : List Item) (k : ℕ) (r : Option (Bor Item)) → zs ≡ xs
    → MatchOption r (length zs ≤ k) (λ y. (k < length zs) × HoldsAt (λ z. y.now ≡ z) zs k)
    → option_map (λ y. y.now) r ≡ nth_item xs k
nth_from_get xs zs k None same h = sym (nth_past xs k (subst (λ ys. length ys ≤ k) same h))
nth_from_get xs zs k (Some y) same h =
    sym (nth_there xs k y.now (subst (λ ys. k < length ys) same h.0) ∙ ap Some (sym (h.1 y.now ∙ ap (λ (ys : List Item). get_or ys k y.now) same)))

-- the new item inserted before the first that starts later
pub put_at_position : {F : Type 0} {g : Mut F (Bor Item × Unit {0}) Bool} {s : Iter Item} (new : Item) (xs : List Item) → iter_rest s ≡ xs
    → (u : Iter Item) (f : F) (r : Option ℕ)
    → (ys : List (Bor Item)) × (o : Option (Bor Item)) × (j : F) × YieldsThen fronts s ys o u × FoldsTo (λ p y q. Called g p (y, tt) false q) f ys j × MatchOption o (r ≡ None) (λ y. (r ≡ Some (length ys)) × ((h : F) × Called g j (y, tt) true h))
    → ((y : Bor Item) (b : Bool) (q : F) → Called g f (y, tt) b q → (q ≡ f) × (b ≡ above new y.now))
    → (k n : ℕ) → k ≡ unwrap_or r n → n ≡ length xs → insert xs k new ≡ put_in xs new
put_at_position new xs road u f r ran says k n at long =
    let place = position_or_len (above new) xs in
    let known = position_from_yields_List (above new) u f r ran (YieldsList-from_slice xs road) says in
    ap (λ (i : ℕ). insert xs i new) (at ∙ ap (unwrap_or r) long ∙ ap (λ (o : Option ℕ). unwrap_or o (length xs)) known ∙ whole place (length xs) (prefix_len-le-length _ xs)) ∙ put_is_insert xs new
  where
    whole : (k n : ℕ) → k ≤ n → unwrap_or (cond (ltb k n) (Some k) None) n ≡ k
    whole k n h = ⊎_elim (λ lt. rw (cond-true (ltb k n) (Some k) None (lt-ltb k n lt)) refl) (λ ge. rw (cond-false (ltb k n) (Some k) None (le-ltb k n ge)) (omega arith)) (cases_lt k n)

-- the items that stay, where no call changes one
pub drop_by_retain : {F : Type 0} (R : F → Item → Bool → F → Item → Type 0) (s : ℕ) (f : F) (xs ys : List Item)
    → ((x : Item) (b : Bool) (q : F) (y : Item) → R f x b q y → (b ≡ not (has_start s x)) × (q ≡ f) × (y ≡ x))
    → RetainsInTurn R f xs ys → ys ≡ drop_in xs s
drop_by_retain R s f xs ys says h = filter-from_retain R (λ x. not (has_start s x)) f says xs ys h ∙ keep_is_filter _ xs

-- the items written back, each changed by f
pub mapped_from_zip : {R : Item → Item → Type 0} (f : Item → Item) (v : ArrayVec Item) (zs ys : List Item) → AllZip R zs ys → zs ≡ v.items → ((x y : Item) → R x y → y ≡ f x) → (with_items v ys).items ≡ map f v.items
mapped_from_zip {R} f v zs ys h same says =
    let each = by zs ys h ∙ ap (map f) same in items-with_items v ys (ap length each ∙ length-map v.items f) ∙ each
  where
    by : (zs ys : List Item) → AllZip R zs ys → ys ≡ map f zs
    by [] [] h = refl
    by [] (y ∷ ys) h = absurd h
    by (z ∷ zs) [] h = absurd h
    by (z ∷ zs) (y ∷ ys) h = ap (λ (x : Item). x ∷ ys) (says z y h.0) ∙ ap (λ (xs : List Item). f z ∷ xs) (by zs ys h.1)
