-- What the outcome of an operation says, by whether it was turned down.
use Rattle.std.proofs.Common.{◌≡◌, ℕ, ◌^◌, ◌<◌, ◌≤◌, Bool, true, false, ◌||◌, eqb, ltb, leb, List, [], set, Some, None, Ok, Err, Option, Result, sym, refl, ap, ◌∙◌, subst, arith}
use Rattle.std.proofs.lemmas.List.{set-get_or}
use Rattle.std.proofs.lemmas.Bool.{eq-eqb, both_ways, not-false, cond-true, cond-false, le-leb, lt-leb, leb-false, ltb-false, or_parts, le-ltb, ne_eqb, or_from, not_from_true}
use Rattle.history.specs.declared.item.Item.{Item}
use Rattle.history.specs.declared.item.Cause.{Cause}
use Rattle.history.specs.declared.item.Cause.TheVariants.{NoObject}
use Rattle.history.specs.declared.item.Fault.{Fault}
use Rattle.history.specs.Meaning.{Meaning, Op, Outcome, answer_by, chains_by, image_by, RoomsBy, answered, applied, written, either, cause_of, chain_of, cause_in, fault_of, no_start, objects_of, too_large, version_at, Rooms}
use Rattle.history.specs.Chain.{some_item, has_start, starts_within, covers}
use Rattle.history.specs.Meaning.Op.{Find, Extend, Put, Seal, Drop}

-- find leaves all as it was, turned down or not

find_chains : (m : Meaning) (o p : ℕ) (q : Option Cause) → chains_by m o (Find p) q ≡ m.chains
find_chains m o p None = set-get_or m.chains o []
find_chains m o p (Some c) = refl

find_image : (m : Meaning) (o p : ℕ) (q : Option Cause) → image_by m o (Find p) q ≡ m.image
find_image m o p None = refl
find_image m o p (Some c) = refl

find_rooms : (m : Meaning) (o p : ℕ) (q : Option Cause) → RoomsBy m o (Find p) m.room q
find_rooms m o p None = λ k. refl
find_rooms m o p (Some c) = λ k. refl

pub find_outcome : (m : Meaning) (o p : ℕ) → Outcome m o (Find p) m
find_outcome m o p = record {
  chains = sym (find_chains m o p (cause_of m o (Find p)));
  rooms = find_rooms m o p (cause_of m o (Find p));
  image = sym (find_image m o p (cause_of m o (Find p)));
  writes = refl;
}

pub find_leaves : (m n : Meaning) (o p : ℕ) → Outcome m o (Find p) n → n.chains ≡ m.chains
find_leaves m n o p h = h.chains ∙ find_chains m o p (cause_of m o (Find p))

-- what an answer tells of the cause

pub ok_not_err : {A B : Type 0} (a : A) (b : B) → ◌≡◌ {A = Result A B} (Ok a) (Err b) → ⊥
ok_not_err a b e = let z : ◌≡◌ {A = ℕ} 0 1 = cc in omega arith

pub ok_accepted : {A : Type 0} (m : Meaning) (o : ℕ) (op : Op) (a b : A) → Ok b ≡ answered m o op a → cause_of m o op ≡ None
ok_accepted m o op a b = by (cause_of m o op)
  where
    by : (q : Option Cause) → Ok b ≡ answer_by m o op a q → q ≡ None
    by None e = refl
    by (Some c) e = absurd (ok_not_err b (fault_of m o op c) e)

pub err_chains : {A : Type 0} (m : Meaning) (o : ℕ) (op : Op) (a : A) (f : Fault) → Err f ≡ answered m o op a → chains_by m o op (cause_of m o op) ≡ m.chains
err_chains m o op a f = by (cause_of m o op)
  where
    by : (q : Option Cause) → Err f ≡ answer_by m o op a q → chains_by m o op q ≡ m.chains
    by None e = absurd (ok_not_err a f (sym e))
    by (Some c) e = refl

-- an operation that is turned down

pub refused_answer : {A : Type 0} (m : Meaning) (o : ℕ) (op : Op) (a : A) (c : Cause) → cause_of m o op ≡ Some c → Err (fault_of m o op c) ≡ answered m o op a
refused_answer m o op a c e = sym (ap (answer_by m o op a) e)

pub refused_outcome : (m : Meaning) (o : ℕ) (op : Op) (c : Cause) → cause_of m o op ≡ Some c → Outcome m o op m
refused_outcome m o op c e = record {
  chains = sym (ap (chains_by m o op) e);
  rooms = subst (RoomsBy m o op m.room) (sym e) (λ k. refl);
  image = sym (ap (image_by m o op) e);
  writes = refl;
}

-- and one that is not

pub accepted_answer : {A : Type 0} (m : Meaning) (o : ℕ) (op : Op) (a : A) → cause_of m o op ≡ None → Ok a ≡ answered m o op a
accepted_answer m o op a e = sym (ap (answer_by m o op a) e)

pub accepted_chains : (m : Meaning) (o : ℕ) (op : Op) → cause_of m o op ≡ None → chains_by m o op (cause_of m o op) ≡ set m.chains o (applied (chain_of m o) op)
accepted_chains m o op e = ap (chains_by m o op) e

-- an accepted operation's part of the outcome
pub record Accepted (m : Meaning) (o : ℕ) (op : Op) (n : Meaning) : Type 0 where
  pub chains : n.chains ≡ set m.chains o (applied (chain_of m o) op)
  pub rooms : Rooms op o m.room n.room
  pub image : n.image ≡ written m o op
  pub writes : n.writes ≡ m.writes

pub accepted_outcome : (m n : Meaning) (o : ℕ) (op : Op) → cause_of m o op ≡ None → Accepted m o op n → Outcome m o op n
accepted_outcome m n o op e a = record {
  chains = a.chains ∙ sym (ap (chains_by m o op) e);
  rooms = subst (RoomsBy m o op n.room) (sym e) a.rooms;
  image = a.image ∙ sym (ap (image_by m o op) e);
  writes = a.writes;
}

-- by the object

pub no_object : (m : Meaning) (o : ℕ) (op : Op) → objects_of m ≤ o → cause_of m o op ≡ Some NoObject
no_object m o op h = cond-true (leb (objects_of m) o) _ _ (le-leb (objects_of m) o h)

pub cause_within : (m : Meaning) (o : ℕ) (op : Op) → o < objects_of m → cause_of m o op ≡ cause_in (chain_of m o) (m.room o) op
cause_within m o op h = cond-false (leb (objects_of m) o) _ _ (lt-leb (objects_of m) o h)

pub find_accepted : (m : Meaning) (o p : ℕ) → o < objects_of m → p < 2 ^ 63 → cause_of m o (Find p) ≡ None
find_accepted m o p l h = cause_within m o (Find p) l ∙ cond-false (leb (2 ^ 63) p) _ _ (lt-leb (2 ^ 63) p h)

-- when an operation on a chain is not turned down

pub extend_passes : (xs : List Item) (room s p : ℕ) → s < 2 ^ 63 → p < 2 ^ 63 → some_item (has_start s) xs ≡ true → some_item (starts_within s p) xs ≡ false → cause_in xs room (Extend s p) ≡ None
extend_passes xs room s p hs hp there none =
    cond-false (too_large s || too_large p) _ _ (or_from _ _ (lt-leb (2 ^ 63) s hs) (lt-leb (2 ^ 63) p hp)) ∙ cond-false (no_start s xs) _ _ (not_from_true _ there) ∙ cond-false (some_item (starts_within s p) xs) _ _ none

pub seal_passes : (xs : List Item) (room s : ℕ) → s < 2 ^ 63 → some_item (has_start s) xs ≡ true → cause_in xs room (Seal s) ≡ None
seal_passes xs room s hs there =
    cond-false (too_large s) _ _ (lt-leb (2 ^ 63) s hs) ∙ cond-false (no_start s xs) _ _ (not_from_true _ there)

pub drop_passes : (xs : List Item) (room s : ℕ) → s < 2 ^ 63 → some_item (has_start s) xs ≡ true → version_at s xs ≡ false → cause_in xs room (Drop s) ≡ None
drop_passes xs room s hs there none =
    cond-false (too_large s) _ _ (lt-leb (2 ^ 63) s hs) ∙ cond-false (no_start s xs) _ _ (not_from_true _ there) ∙ cond-false (version_at s xs) _ _ none

pub put_passes : (xs : List Item) (room p mark n : ℕ) → p < 2 ^ 63 → mark ≤ 64 → some_item (covers p) xs ≡ false → (room ≡ 0 → ⊥) → cause_in xs room (Put p mark n) ≡ None
put_passes xs room p mark n hp hm none some =
    cond-false (too_large p || ltb 64 mark) _ _ (or_from _ _ (lt-leb (2 ^ 63) p hp) (le-ltb 64 mark hm)) ∙ cond-false (some_item (covers p) xs) _ _ none ∙ cond-false (eqb room 0) _ _ (ne_eqb room 0 some)

-- and what is then known

pub either_none : (b : Bool) (c : Cause) (other : Option Cause) → either b c other ≡ None → (b ≡ false) × (other ≡ None)
either_none true c other e = absurd (let z : ◌≡◌ {A = ℕ} 0 1 = cc in omega arith)
either_none false c other e = (refl, e)

pub record Extendable (xs : List Item) (s p : ℕ) : Type 0 where
  pub early : p < 2 ^ 63
  pub apart : some_item (starts_within s p) xs ≡ false

pub extend_needs : (xs : List Item) (room s p : ℕ) → cause_in xs room (Extend s p) ≡ None → Extendable xs s p
extend_needs xs room s p e =
    let a = either_none (too_large s || too_large p) _ _ e in
    let b = either_none (no_start s xs) _ _ a.1 in
    record { early = leb-false (2 ^ 63) p (or_parts (too_large s) (too_large p) a.0).1; apart = (either_none (some_item (starts_within s p) xs) _ _ b.1).0 }

pub record Puttable (xs : List Item) (room p mark : ℕ) : Type 0 where
  pub early : p < 2 ^ 63
  pub marked : mark ≤ 64
  pub apart : some_item (covers p) xs ≡ false
  pub room_left : room ≡ 0 → ⊥

pub put_needs : (xs : List Item) (room p mark n : ℕ) → cause_in xs room (Put p mark n) ≡ None → Puttable xs room p mark
put_needs xs room p mark n e =
    let a = either_none (too_large p || ltb 64 mark) _ _ e in
    let b = either_none (some_item (covers p) xs) _ _ a.1 in
    let c = or_parts (too_large p) (ltb 64 mark) a.0 in
    record {
      early = leb-false (2 ^ 63) p c.0;
      marked = ltb-false 64 mark c.1;
      apart = b.0;
      room_left = λ z. both_ways (eqb room 0) (either_none (eqb room 0) _ _ b.1).0 (eq-eqb room 0 z);
    }

pub record Droppable (xs : List Item) (s : ℕ) : Type 0 where
  pub there : some_item (has_start s) xs ≡ true
  pub token : version_at s xs ≡ false

pub drop_needs : (xs : List Item) (room s : ℕ) → cause_in xs room (Drop s) ≡ None → Droppable xs s
drop_needs xs room s e =
    let a = either_none (no_start s xs) _ _ (either_none (too_large s) _ _ e).1 in
    record { there = not-false _ a.0; token = (either_none (version_at s xs) _ _ a.1).0 }
