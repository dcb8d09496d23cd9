-- The walk that settles an object's tokens.
use Rattle.std.proofs.Common.{◌≡◌, ℕ, suc, ◌+◌, ◌-◌, ◌<◌, ◌≤◌, false, not, List, [], ◌∷◌, ◌++◌, map, length, Some, None, Ok, Option, sym, refl, ap, ◌∙◌, subst, append_assoc, append-nil, add-zero, zero-add, arith, length-append}
use Rattle.std.proofs.lemmas.Bool.{eq-eqb, ne_eqb, leb-false, cond-true, cond-false, not_from_true, not_from_false}
use Rattle.history.specs.declared.item.Item.{Item}
use Rattle.history.specs.Chain.{nth_item, has_start, is_version, seals, seal_in, seal_item, drop_in}
use Rattle.history.specs.Meaning.{Meaning, Sound, Op, answered, answer_by, cause_of, chain_of, objects_of}
use Rattle.history.specs.Meaning.Op.{At}
use Rattle.history.specs.Members.{◌∈◌, here, there}
use Rattle.history.proofs.Chains.{Sorted, lawful_sorted, keep_all}
use Rattle.history.proofs.Lists.{in_right}
use Rattle.history.proofs.Outcomes.{either_none, cause_within}
use Rattle.ledger.specs.declared.record.Standing.{Standing}
use Rattle.ledger.specs.declared.record.Standing.TheVariants.{Open, Committed, Aborted}
use Rattle.register.specs.declared.walk.Walk.{Walk}
use Rattle.register.specs.State.{State}
use Rattle.register.specs.Calls.{Settling, settle_chain, settle_step}
use Rattle.register.specs.Settling.{Held, Leaves, Settles, settled_chain, settled_records, settled_ops}
use Rattle.register.specs.Settled.{Settled, settling}
use Rattle.register.specs.Walk.{walked}
use Rattle.register.proofs.Leaves.{leaves_none, leaves_then, chain_left, inside_left}
use Rattle.register.proofs.Chains.{token_held}

-- an item in the middle of a chain, and what stays of it

abbrev first_item : List Item → Option Item
first_item [] = None
first_item (x ∷ xs) = Some x

nth_middle : (done rest : List Item) → nth_item (done ++ rest) (length done) ≡ first_item rest
nth_middle [] [] = refl
nth_middle [] (x ∷ rest) = refl
nth_middle (y ∷ done) rest = nth_middle done rest

at_first : (rest : List Item) (x : Item) → first_item rest ≡ Some x → (later : List Item) × (rest ≡ x ∷ later)
at_first [] x h = let z : ◌≡◌ {A = ℕ} 0 1 = cc in absurd (omega arith)
at_first (y ∷ later) x h = (later, cc)

map_fixed : (f : Item → Item) (xs : List Item) → ((x : Item) → x ∈ xs → f x ≡ x) → map f xs ≡ xs
map_fixed f [] k = refl
map_fixed f (x ∷ xs) k = ap (λ y. y ∷ map f xs) (k x here) ∙ ap (λ l. x ∷ l) (map_fixed f xs (λ y i. k y (there i)))

before : (y x : Item) → y.start < x.start → has_start x.start y ≡ false
before y x h = ne_eqb y.start x.start (λ k. omega arith)

after : (y x : Item) → x.start < y.start → has_start x.start y ≡ false
after y x h = ne_eqb y.start x.start (λ k. omega arith)

abbrev stays : Standing → Item → List Item
stays Open x = x ∷ []
stays Committed x = seal_item x ∷ []
stays Aborted x = []

seal_middle : (done : List Item) (x : Item) (rest : List Item) → Sorted (done ++ (x ∷ rest)) → seal_in (done ++ (x ∷ rest)) x.start ≡ done ++ (seal_item x ∷ rest)
seal_middle [] x rest s =
    ap (λ y. y ∷ seal_in rest x.start) (cond-true (has_start x.start x) _ _ (eq-eqb x.start x.start refl))
    ∙ ap (λ l. seal_item x ∷ l) (map_fixed (seals x.start) rest (λ y i. cond-false (has_start x.start y) _ _ (after y x (s.0 y i))))
seal_middle (y ∷ done) x rest s =
    ap (λ z. z ∷ seal_in (done ++ (x ∷ rest)) x.start) (cond-false (has_start x.start y) _ _ (before y x (s.0 x (in_right done here))))
    ∙ ap (λ l. y ∷ l) (seal_middle done x rest s.1)

drop_middle : (done : List Item) (x : Item) (rest : List Item) → Sorted (done ++ (x ∷ rest)) → drop_in (done ++ (x ∷ rest)) x.start ≡ done ++ rest
drop_middle [] x rest s =
    cond-false (not (has_start x.start x)) _ _ (not_from_true _ (eq-eqb x.start x.start refl))
    ∙ keep_all _ rest (λ y i. not_from_false _ (after y x (s.0 y i)))
drop_middle (y ∷ done) x rest s =
    cond-true (not (has_start x.start y)) _ _ (not_from_false _ (before y x (s.0 x (in_right done here))))
    ∙ ap (λ l. y ∷ l) (drop_middle done x rest s.1)

settled_middle : (f : Standing) (done : List Item) (x : Item) (rest : List Item) → Sorted (done ++ (x ∷ rest)) → settled_chain f (done ++ (x ∷ rest)) x ≡ (done ++ stays f x) ++ rest
settled_middle Open done x rest s = sym (append_assoc done (x ∷ []) rest)
settled_middle Committed done x rest s = seal_middle done x rest s ∙ sym (append_assoc done (seal_item x ∷ []) rest)
settled_middle Aborted done x rest s = drop_middle done x rest s ∙ sym (append_assoc done [] rest)

-- the walk so far, before the settling of what follows
abbrev passed : List Item → Walk → List Op → Settling → Settling
passed done k ops w = record { chain = done ++ w.chain; records = w.records; sealed = k.sealed + w.sealed; dropped = k.dropped + w.dropped; ops = ops ++ w.ops }

passed_step : (f : Standing) (done : List Item) (k : Walk) (ops : List Op) (x : Item) (w : Settling)
    → passed done k ops (settle_step x f w) ≡ passed (done ++ stays f x) (walked k f) (ops ++ settled_ops f x) w
passed_step Open done k ops x w =
    let a = append_assoc done (x ∷ []) w.chain in let b = append_assoc ops [] w.ops in cc
passed_step Committed done k ops x w =
    let a = append_assoc done (seal_item x ∷ []) w.chain in
    let b = append_assoc ops (settled_ops Committed x) w.ops in
    let n : k.sealed + (w.sealed + 1) ≡ k.sealed + 1 + w.sealed = omega arith in
    cc
passed_step Aborted done k ops x w =
    let a = append_assoc done [] w.chain in
    let b = append_assoc ops (settled_ops Aborted x) w.ops in
    let n : k.dropped + (w.dropped + 1) ≡ k.dropped + 1 + w.dropped = omega arith in
    cc

place_on : (f : Standing) (done : List Item) (k : Walk) (x : Item) → length done ≡ k.place → length (done ++ stays f x) ≡ (walked k f).place
place_on Open done k x h = length-append done (x ∷ []) ∙ ap (λ n. n + 1) h
place_on Committed done k x h = length-append done (seal_item x ∷ []) ∙ ap (λ n. n + 1) h
place_on Aborted done k x h = ap length (append-nil done) ∙ h

few_on : (f : Standing) (k : Walk) (n : ℕ) → k.dropped + (k.place + suc n) ≤ 65535 → (walked k f).dropped + ((walked k f).place + n) ≤ 65535
few_on Open k n h = omega arith
few_on Committed k n h = omega arith
few_on Aborted k n h = omega arith

-- the walk on its way, from a state s to a state t
pub record Walking (s : State) (o : ℕ) (k : Walk) (t : State) : Type 0 where
  pub done : List Item
  pub rest : List Item
  pub ops : List Op
  pub split : chain_of t.store o ≡ done ++ rest
  pub place : length done ≡ k.place
  pub leaves : Leaves s o (chain_of t.store o) t.records ops t
  pub settles : settling s o ≡ passed done k ops (settle_chain t.clocks t.records rest)
  pub few : k.dropped + (k.place + length rest) ≤ 65535
  pub inside : o < objects_of t.store

pub at_inside : (m : Meaning) (o : ℕ) → cause_of m o At ≡ None → o < objects_of m
at_inside m o e = leb-false _ _ (either_none _ _ _ e).0

pub walking_none : (s : State) (o : ℕ) → Sound s.store → cause_of s.store o At ≡ None → Walking s o (record { place = 0; sealed = 0; dropped = 0 }) s
walking_none s o sound e =
    let h = at_inside s.store o e in
    let b = sound.bounded o h in
    let w = settling s o in
    let few : 0 + (0 + length (chain_of s.store o)) ≤ 65535 = omega arith in
    let p = zero-add w.sealed in
    let q = zero-add w.dropped in
    record { done = []; rest = chain_of s.store o; ops = []; split = refl; place = refl; leaves = leaves_none s o; settles = sym (λ j. record { chain = w.chain; records = w.records; sealed = p j; dropped = q j; ops = w.ops }); few = few; inside = h }

-- what `at` answers tells
pub at_answer : (m : Meaning) (o : ℕ) (v w : Option Item) → o < objects_of m → Ok w ≡ answered m o At v → v ≡ w
at_answer m o v w h a = let c : answered m o At v ≡ Ok v = ap (answer_by m o At v) (cause_within m o At h) in cc

-- a walk seals no more than it passes
pub sealed_passed : (k : Walk) (f : Standing) → k.sealed ≤ k.place → (walked k f).sealed ≤ (walked k f).place
sealed_passed k Open l = omega arith
sealed_passed k Committed l = omega arith
sealed_passed k Aborted l = l

module _ (s : State) (o : ℕ) (k : Walk) (t : State) (l : Walking s o k t) where
  met_here : nth_item (chain_of t.store o) k.place ≡ first_item l.rest
  met_here = ap (λ c. nth_item c k.place) l.split ∙ (ap (λ n. nth_item (l.done ++ l.rest) n) (sym l.place) ∙ nth_middle l.done l.rest)

  pub walked_all : nth_item (chain_of t.store o) k.place ≡ None → Settled s o k t
  walked_all e = go l.rest refl (sym met_here ∙ e)
    where
      go : (rest : List Item) → l.rest ≡ rest → first_item rest ≡ None → Settled s o k t
      go (x ∷ rest) q h = let z : ◌≡◌ {A = ℕ} 0 1 = cc in absurd (omega arith)
      go [] q h =
          let a : chain_of t.store o ≡ l.done ++ [] = l.split ∙ ap (λ r. l.done ++ r) q in
          let b = append-nil l.ops in
          let n = add-zero k.sealed in
          let m = add-zero k.dropped in
          let w : settling s o ≡ passed l.done k l.ops (settle_chain t.clocks t.records []) = l.settles ∙ ap (λ r. passed l.done k l.ops (settle_chain t.clocks t.records r)) q in
          let all : record { chain = chain_of t.store o; records = t.records; sealed = k.sealed; dropped = k.dropped; ops = l.ops } ≡ settling s o = cc in
          record {
            sealed = ap (λ (u : Settling). u.sealed) all;
            dropped = ap (λ (u : Settling). u.dropped) all;
            leaves = subst (λ (u : Settling). Leaves s o u.chain u.records u.ops t) all l.leaves;
          }

  module _ (x : Item) (e : nth_item (chain_of t.store o) k.place ≡ Some x) where
    later : (later : List Item) × (l.rest ≡ x ∷ later)
    later = at_first l.rest x (sym met_here ∙ e)

    chain_is : chain_of t.store o ≡ l.done ++ (x ∷ later.0)
    chain_is = l.split ∙ ap (λ r. l.done ++ r) later.1

    pub item_held : Sound t.store → is_version x ≡ false → Held t.store o x
    item_held sound v = token_held t.store o x sound l.inside (subst (λ c. x ∈ c) (sym chain_is) (in_right l.done here)) v

    pub walking_on : (u : State) (f : Standing) → Sound t.store → Settles t o x f u → Walking s o (walked k f) u
    walking_on u f sound h =
        let now = chain_left h.leaves l.inside in
        let n : length l.rest ≡ suc (length later.0) = ap length later.1 in
        let few = l.few in
        let sorted : Sorted (l.done ++ (x ∷ later.0)) = subst Sorted chain_is (lawful_sorted _ (sound.lawful o l.inside)) in
        record {
          done = l.done ++ stays f x;
          rest = later.0;
          ops = l.ops ++ settled_ops f x;
          split = now ∙ (ap (λ c. settled_chain f c x) chain_is ∙ settled_middle f l.done x later.0 sorted);
          place = place_on f l.done k x l.place;
          leaves = leaves_then l.leaves (subst (λ c. Leaves t o c u.records (settled_ops f x) u) (sym now)
              (subst (λ r. Leaves t o (settled_chain f (chain_of t.store o) x) r (settled_ops f x) u) (sym h.leaves.records) h.leaves));
          settles = l.settles ∙ (ap (passed l.done k l.ops) stepped ∙ passed_step f l.done k l.ops x _);
          few = few_on f k (length later.0) (omega arith);
          inside = inside_left h.leaves l.inside;
        }
      where
        stepped : settle_chain t.clocks t.records l.rest ≡ settle_step x f (settle_chain u.clocks u.records later.0)
        stepped =
            ap (λ r. settle_chain t.clocks t.records r) later.1
            ∙ (ap (λ w. settle_step x w (settle_chain t.clocks (settled_records w t.records x) later.0)) (sym h.fate_is)
            ∙ (ap (λ r. settle_step x f (settle_chain t.clocks r later.0)) (sym h.leaves.records)
            ∙ ap (λ c. settle_step x f (settle_chain c u.records later.0)) (sym h.leaves.clocks)))

    -- fewer items are left
    pub walk_shortens : (u : State) (f : Standing) → Sound t.store → Settles t o x f u → length (chain_of u.store o) - (walked k f).place < length (chain_of t.store o) - k.place
    unfolding walking_on later
    walk_shortens u f sound h =
        let w = walking_on u f sound h in
        let now : length (chain_of u.store o) ≡ (walked k f).place + length later.0 = ap length w.split ∙ length-append w.done w.rest ∙ ap (λ n. n + length later.0) w.place in
        let was : length (chain_of t.store o) ≡ k.place + suc (length later.0) = ap length chain_is ∙ length-append l.done (x ∷ later.0) ∙ ap (λ n. n + suc (length later.0)) l.place in
        omega (arith, now, was)
