-- What a store over bytes serves, and that it is sound whatever the bytes are.
use Rattle.std.proofs.Common.{◌≡◌, ℕ, ◌+◌, ◌<◌, ◌≤◌, true, false, cond, leb, List, [], map, length, get_or, sum_by, Some, sym, refl, ap, ◌∙◌, subst, ⊎_elim, zero-add, arith}
use Rattle.std.proofs.lemmas.List.{length-map, get_or-map}
use Rattle.std.proofs.lemmas.List.Sums.{get_or-le-sum_by}
use Rattle.std.proofs.lemmas.List.FromFn.{length-map-range_with_len, get_or-map-range_with_len}
use Rattle.std.proofs.lemmas.Bool.{cases_Bool, le-leb, lt-leb, cond-true, cond-false}
use Rattle.history.specs.declared.item.Cause.TheVariants.{NoObject}
use Rattle.history.specs.Chain.{Lawful}
use Rattle.history.specs.Meaning.{Sound, Op, chain_of, objects_of, cause_of, cause_in}
use Rattle.layout.specs.Layout.{objects_in, free_in, item_at, path, paths, whole, items, history, lawful}
use Rattle.layout.proofs.Each.{below}
use Rattle.layout.proofs.Parts.{Header, header_parts, Parts, parts}
use Rattle.layout.proofs.Histories.{history_parts}
use Rattle.layout.proofs.Represents.{Represents, Same, same, represented, path_at, sizes}
use Rattle.chained.specs.Means.{meaning, served}

pub objects_are : (bs : List ℕ) → objects_of (meaning bs) ≡ served bs
unfolding meaning served
objects_are bs =
    ⊎_elim
    (λ t. rw t (length-map (paths bs) (map (item_at bs)) ∙ length-map-range_with_len (λ o. path bs (o + 1)) 0 (objects_in bs)))
    (λ t. rw t refl)
    (cases_Bool (lawful bs))

-- what is known of an object of the store
pub record Serves (bs : List ℕ) (o : ℕ) : Type 0 where
  pub lawful : lawful bs ≡ true
  pub header : Header bs
  pub served : served bs ≡ objects_in bs
  pub below : o < objects_in bs
  pub whole : whole bs (o + 1) ≡ true
  pub rules : history (items bs (o + 1)) ≡ true
  pub chain : chain_of (meaning bs) o ≡ items bs (o + 1)

pub serves : (bs : List ℕ) (o : ℕ) → o < served bs → Serves bs o
unfolding meaning served
serves bs o l =
    ⊎_elim
    (λ t.
    let p : Parts bs = parts bs t in
    let u : cond (lawful bs) (objects_in bs) 0 ≡ objects_in bs = cond-true (lawful bs) (objects_in bs) 0 t in
    let b : o < objects_in bs = omega arith in
    record {
      lawful = t;
      header = header_parts bs p.header;
      served = u;
      below = b;
      whole = below (objects_in bs) (λ k. whole bs (k + 1)) p.threads.chains o b;
      rules = below (objects_in bs) (λ k. history (items bs (k + 1))) p.rules o b;
      chain = rw t (at_item bs o b);
    })
    (λ t. let u : cond (lawful bs) (objects_in bs) 0 ≡ 0 = cond-false (lawful bs) (objects_in bs) 0 t in absurd (omega arith))
    (cases_Bool (lawful bs))
  where
    at_item : (bs : List ℕ) (o : ℕ) → o < objects_in bs → get_or (map (map (item_at bs)) (paths bs)) o [] ≡ items bs (o + 1)
    at_item bs o b =
        get_or-map (map (item_at bs)) (paths bs) o [] [] (omega (arith, length-map-range_with_len (λ o. path bs (o + 1)) 0 (objects_in bs)))
        ∙ ap (map (item_at bs)) (get_or-map-range_with_len (λ o. path bs (o + 1)) 0 (objects_in bs) o o [] b (zero-add o))

-- a cause in a chain
pub cause_at : (bs : List ℕ) (o : ℕ) (op : Op) → o < served bs → cause_of (meaning bs) o op ≡ cause_in (items bs (o + 1)) ((meaning bs).room o) op
cause_at bs o op l =
    let s : Serves bs o = serves bs o l in
    let t : leb (objects_of (meaning bs)) o ≡ false = lt-leb (objects_of (meaning bs)) o (omega (arith, objects_are bs)) in
    rw (t, s.chain) refl

pub no_object : (bs : List ℕ) (o : ℕ) (op : Op) → served bs ≤ o → cause_of (meaning bs) o op ≡ Some NoObject
no_object bs o op l =
    let t : leb (objects_of (meaning bs)) o ≡ true = le-leb (objects_of (meaning bs)) o (omega (arith, objects_are bs)) in
    rw t refl

pub served_lawful : (bs : List ℕ) → lawful bs ≡ true → served bs ≡ objects_in bs
unfolding served
served_lawful bs h = cond-true _ _ _ h

pub served_unlawful : (bs : List ℕ) → lawful bs ≡ false → served bs ≡ 0
unfolding served
served_unlawful bs h = cond-false _ _ _ h

pub none_served : (bs : List ℕ) → served bs ≡ 0 → lawful bs ≡ false
none_served bs e =
    ⊎_elim
    (λ t. absurd (omega (arith, served_lawful bs t, (header_parts bs (parts bs t).header).size.some)))
    (λ t. t)
    (cases_Bool (lawful bs))

pub some_served : (bs : List ℕ) → (served bs ≡ 0 → ⊥) → lawful bs ≡ true
some_served bs n = ⊎_elim (λ t. t) (λ t. absurd (n (served_unlawful bs t))) (cases_Bool (lawful bs))

-- what represented bytes mean
pub chains_are : (bs : List ℕ) (css : List (List ℕ)) (free : List ℕ) → Represents bs css free → (meaning bs).chains ≡ map (map (item_at bs)) css
unfolding meaning
chains_are bs css free r =
    let s : Same bs css free = same bs css free r in
    cond-true (lawful bs) (map (map (item_at bs)) (paths bs)) [] s.lawful ∙ ap (map (map (item_at bs))) s.paths

pub room_is : (bs : List ℕ) (css : List (List ℕ)) (free : List ℕ) → Represents bs css free → (o : ℕ) → (meaning bs).room o ≡ length free
unfolding meaning
room_is bs css free r o = ap length (same bs css free r).spare

pub few : (bs : List ℕ) → served bs ≤ 65535
few bs =
    ⊎_elim
    (λ t. omega (arith, served_lawful bs t, (header_parts bs (parts bs t).header).size.few))
    (λ t. omega (arith, served_unlawful bs t))
    (cases_Bool (lawful bs))

pub sound : (bs : List ℕ) → Sound (meaning bs)
sound bs =
    record {
      few = omega (arith, objects_are bs, few bs);
      lawful = λ o l. let v = at o l in subst Lawful (sym v.chain) (history_parts (items bs (o + 1)) v.rules);
      bounded = bounded;
    }
  where
    at : (o : ℕ) → o < objects_of (meaning bs) → Serves bs o
    at o l = serves bs o (omega (arith, objects_are bs))

    bounded : (o : ℕ) → o < objects_of (meaning bs) → length (chain_of (meaning bs) o) + (meaning bs).room o ≤ 65535
    bounded o l =
        let v : Serves bs o = at o l in
        let r : Represents bs (paths bs) (path bs (free_in bs)) = represented bs v.lawful in
        let a : length (chain_of (meaning bs) o) ≡ length (items bs (o + 1)) = ap length v.chain in
        let b : length (items bs (o + 1)) ≡ length (path bs (o + 1)) = length-map (path bs (o + 1)) (item_at bs) in
        let c : length (get_or (paths bs) o []) ≡ length (path bs (o + 1)) = ap length (path_at bs o v.below) in
        let d : length (get_or (paths bs) o []) ≤ sum_by length (paths bs) = get_or-le-sum_by length (paths bs) o [] (omega (arith, r.count, v.below)) in
        omega (arith, sizes bs (paths bs) (path bs (free_in bs)) r, room_is bs (paths bs) (path bs (free_in bs)) r o, v.header.size.most)
