-- The law of the bytes.
use Rattle.std.proofs.Common.{◌≡◌, ℕ, ◌+◌, ◌-◌, ◌^◌, ◌<◌, ◌≤◌, max, true, cond, ◌&&◌, ◌||◌, eqb, leb, List, [], ◌∷◌, ◌++◌, map, length, None, sym, refl, ap, ◌∙◌, subst, ⊎_elim, arith}
use Rattle.std.specs.List.{AllByRecursion}
use Rattle.std.proofs.lemmas.List.{set-get_or, map-append}
use Rattle.std.proofs.lemmas.Bool.{cases_eq, eqb-true, eqb-false, leb-false, not-false}
use Rattle.history.specs.declared.item.Item.{Item}
use Rattle.history.specs.Chain.{some_item, has_start, raise, seal_item, fresh_item}
use Rattle.history.specs.Meaning.{Op, applied, cause_of, cause_in, no_start, version_at, too_large, objects_of}
use Rattle.history.specs.Meaning.Op.{Find, At, Extend, Put, Seal, Drop}
use Rattle.history.proofs.Chains.{Sorted, ascends_sorted, ascends_spanned, lawful_ascends, find_is}
use Rattle.history.proofs.Laws.{first_stays}
use Rattle.history.proofs.Outcomes.{either_none, extend_needs, put_needs, drop_needs}
use Rattle.layout.specs.Layout.{records_in, free_in, item_at, next_at, path, items, times, blank}
use Rattle.chained.specs.Edits.{blank_item, relink, link, unlink, record_by, chained_writes}
use Rattle.layout.specs.Edits.{Changed, with_end, with_mark}
use Rattle.chained.specs.Means.{meaning, served}
use Rattle.chained.specs.Laws.{room_after, Spells, WritesStand}
use Rattle.layout.proofs.Runs.{Run, run_ends, trail_within}
use Rattle.layout.proofs.Totals.{Within, times_cons}
use Rattle.chained.specs.Served.{Serves, serves, objects_are, cause_at}
use Rattle.layout.proofs.Parts.{parts}
use Rattle.layout.proofs.Represents.{each_parts}
use Rattle.chained.proofs.Edited.{Linked, Storable, changed_edited, relinked}
use Rattle.layout.proofs.Edit.{end_put, mark_put}
use Rattle.chained.proofs.Seeks.{start_tells}
use Rattle.chained.proofs.Splits.{Slot, changes, map_changes, cut_items}
use Rattle.chained.proofs.Moves.{times_self, times_mid, all_but, map_same, run_kept, Through, through, run_join, blanks_same, few, spells}
use Rattle.chained.proofs.Openings as at

map_mid : (bs cs pre : List ℕ) (a : ℕ) (ts : List ℕ) (y : Item) (zs : List Item) → AllByRecursion (λ j. item_at cs j ≡ item_at bs j) pre → item_at cs a ≡ y → map (item_at cs) ts ≡ zs → map (item_at cs) (pre ++ (a ∷ ts)) ≡ map (item_at bs) pre ++ (y ∷ zs)
map_mid bs cs [] a ts y zs h e f = ap (λ z. z ∷ map (item_at cs) ts) e ∙ ap (λ l. y ∷ l) f
map_mid bs cs (p ∷ pre) a ts y zs h e f = ap (λ z. z ∷ map (item_at cs) (pre ++ (a ∷ ts))) h.0 ∙ ap (λ l. item_at bs p ∷ l) (map_mid bs cs pre a ts y zs h.1 e f)

module _ (bs : List ℕ) (o : ℕ) (v : Serves bs o) where
  spare : Run bs (records_in bs) (free_in bs) (path bs (free_in bs))
  spare = run_ends bs (records_in bs) (records_in bs) (free_in bs) (parts bs v.lawful).threads.spare

  blanks : AllByRecursion (λ k. blank bs k ≡ true) (path bs (free_in bs))
  blanks = each_parts _ _ (parts bs v.lawful).blanks

  -- the item of the record that starts at s is changed in place
  in_place : (cs : List ℕ) (op : Op) (s : ℕ) (f : Item → Item) → (item_at bs (record_by bs o s)).start ≡ s → Changed bs (record_by bs o s) (f (item_at bs (record_by bs o s))) (next_at bs (record_by bs o s)) cs → applied (items bs (o + 1)) op ≡ map (changes s f) (items bs (o + 1)) → cause_in (items bs (o + 1)) (length (path bs (free_in bs))) op ≡ None → length (path bs (free_in bs)) ≡ room_after op (length (path bs (free_in bs))) → Spells bs o op cs
  in_place cs op s f e c is clear room =
      spells bs o v cs k k (changed_edited c) op (path bs (o + 1)) (path bs (free_in bs)) (t.pos, t.most, here) (t.pos, t.most, here)
      (run_kept bs cs (records_in bs) (o + 1) (path bs (o + 1)) (links (path bs (o + 1))) (at.run bs o v))
      (subst (λ j. Run cs (records_in bs) j (path bs (free_in bs))) (sym (c.head 8 2 (omega arith))) (run_kept bs cs (records_in bs) (free_in bs) (path bs (free_in bs)) (links (path bs (free_in bs))) spare))
      (λ y. refl)
      (blanks_same bs cs (path bs (free_in bs)) (same (path bs (free_in bs)) (trail_within bs (records_in bs) (free_in bs) (path bs (free_in bs)) 0 spare) (omega (arith, one, count))) blanks)
      (ap (map (item_at cs)) p.chain
      ∙ map_mid bs cs p.pre k p.post (f (item_at bs k)) (map (item_at bs) p.post) (same p.pre t.fore (omega (arith, one, count))) c.item
      (map_same bs cs p.post (same p.post (trail_within bs (records_in bs) (next_at bs k) p.post 0 t.rest) (omega (arith, one, count))))
      ∙ sym (map_changes s f (map (item_at bs) p.pre) (item_at bs k) (map (item_at bs) p.post) (subst Sorted split (at.sorted bs o v)) e)
      ∙ ap (map (changes s f)) (sym split)
      ∙ sym is
      )
      clear room
    where
      k : ℕ
      k = record_by bs o s

      p : Slot bs (fresh_item s 0 0) k (path bs (o + 1))
      p = at.slotted bs o v (fresh_item s 0 0)

      split : items bs (o + 1) ≡ map (item_at bs) p.pre ++ (item_at bs k ∷ map (item_at bs) p.post)
      split = ap (map (item_at bs)) p.chain ∙ map-append (item_at bs) p.pre (k ∷ p.post)

      t : Through bs (records_in bs) p.pre k p.post
      t = through bs (records_in bs) (o + 1) p.pre k p.post (subst (Run bs (records_in bs) (o + 1)) p.chain (at.run bs o v))

      count : times k (path bs (o + 1)) ≡ times k p.pre + (1 + times k p.post)
      count = ap (times k) p.chain ∙ times_mid k p.pre k p.post ∙ ap (λ n. times k p.pre + (n + times k p.post)) (times_self k k refl)

      one : times k (path bs (free_in bs)) + times k (path bs (o + 1)) ≤ 1
      one = few bs o v k t.pos t.most

      here : 1 ≤ times k (path bs (free_in bs)) + times k (path bs (o + 1))
      here = omega (arith, count)

      links : (ms : List ℕ) → AllByRecursion (λ j. next_at cs j ≡ next_at bs j) ms
      links [] = tt
      links (j ∷ ms) = (⊎_elim (λ q. ap (next_at cs) q ∙ c.link ∙ sym (ap (next_at bs) q)) (λ n. c.nexts j n) (cases_eq j k), links ms)

      same : (ms : List ℕ) → Within (records_in bs) ms → times k ms ≡ 0 → AllByRecursion (λ j. item_at cs j ≡ item_at bs j) ms
      same ms w z = all_but k k (records_in bs) (λ j. item_at cs j ≡ item_at bs j) ms w z z (λ j _ n _. c.items j n)

  most : (k : ℕ) (ns : List ℕ) → Run bs (records_in bs) k ns → k ≤ records_in bs
  most k [] r = omega arith
  most k (n ∷ ns) r = r.2

  -- Record x goes from the free chain to after record a, or back, and the records of `pre`, `post` and `rest` stay in their chains.
  module _ (op : Op) (a x : ℕ) (new : Item) (next after first : ℕ) (pre ks post rest : List ℕ) (n1 n2 : ℕ) where
    abbrev cs : List ℕ
    cs = relink bs a x new next after first

    abbrev Links : Type 0
    Links = Linked bs a x new next after first cs

    relinks :
        (chain : path bs (o + 1) ≡ pre ++ (a ∷ ks)) →
        (0 < x) × (x ≤ records_in bs) →
        (Through bs (records_in bs) pre a ks → Run bs (records_in bs) n1 post) →
        Run bs (records_in bs) n2 rest →
        ((y : ℕ) → times y (path bs (free_in bs)) + times y ks ≡ cond (eqb y x) 1 0 + (times y post + times y rest)) →
        Storable new →
        (n1 ≤ records_in bs → n2 ≤ records_in bs → (next ≤ records_in bs) × (after ≤ records_in bs) × (first ≤ records_in bs)) →
        (ts free : List ℕ) (zs : List Item) →
        (Links → Run cs (records_in bs) n1 post → Run cs (records_in bs) (next_at cs a) ts) →
        (Links → Run cs (records_in bs) n2 rest → Run cs (records_in bs) (free_in cs) free) →
        ((y : ℕ) → times y free + times y ts ≡ cond (eqb y x) 1 0 + (times y post + times y rest)) →
        (Links → AllByRecursion (λ j. item_at cs j ≡ item_at bs j) rest → AllByRecursion (λ k. blank cs k ≡ true) free) →
        (Links → map (item_at cs) post ≡ map (item_at bs) post → map (item_at cs) ts ≡ zs) →
        applied (items bs (o + 1)) op ≡ map (item_at bs) pre ++ (item_at bs a ∷ zs) →
        cause_in (items bs (o + 1)) (length (path bs (free_in bs))) op ≡ None →
        length free ≡ room_after op (length (path bs (free_in bs))) →
        Spells bs o op cs
    relinks chain ix run1 run2 before fits bounds ts free zs tail spares counts bare mapped is clear room =
        spells bs o v cs a x k.edited op (pre ++ (a ∷ ts)) free
        (ix.0, ix.1, omega (arith, total x, times_self x x refl)) (t.pos, t.most, omega (arith, total a, times_self a a refl))
        (run_join bs cs (records_in bs) (o + 1) pre a ks ts (subst (Run bs (records_in bs) (o + 1)) chain (at.run bs o v)) (links pre t.fore (omega (arith, zx)) (omega (arith, za)))
        (tail k (run_kept bs cs (records_in bs) n1 post (links post w1 (omega (arith, zx)) (omega (arith, za))) (run1 t))))
        (spares k (run_kept bs cs (records_in bs) n2 rest (links rest w2 (omega (arith, zx)) (omega (arith, za))) run2))
        (λ y. omega (arith, counts y, total y, times_mid y pre a ts))
        (bare k (same rest w2 (omega (arith, zx))))
        (map_mid bs cs pre a ts (item_at bs a) zs (same pre t.fore (omega (arith, zx))) (k.edited.items a t.pos (λ q. apart (sym q))) (mapped k (map_same bs cs post (same post w1 (omega (arith, zx)))))
        ∙ sym is
        )
        clear room
      where
        t : Through bs (records_in bs) pre a ks
        t = through bs (records_in bs) (o + 1) pre a ks (subst (Run bs (records_in bs) (o + 1)) chain (at.run bs o v))

        w1 : Within (records_in bs) post
        w1 = trail_within bs (records_in bs) n1 post 0 (run1 t)

        w2 : Within (records_in bs) rest
        w2 = trail_within bs (records_in bs) n2 rest 0 run2

        total : (y : ℕ) → times y (path bs (free_in bs)) + times y (path bs (o + 1)) ≡ times y pre + (cond (eqb y a) 1 0 + (cond (eqb y x) 1 0 + (times y post + times y rest)))
        total y = omega (arith, before y, ap (times y) chain, times_mid y pre a ks)

        zx : times x pre + (cond (eqb x a) 1 0 + (1 + (times x post + times x rest))) ≤ 1
        zx = omega (arith, few bs o v x ix.0 ix.1, total x, times_self x x refl)

        za : times a pre + (1 + (cond (eqb a x) 1 0 + (times a post + times a rest))) ≤ 1
        za = omega (arith, few bs o v a t.pos t.most, total a, times_self a a refl)

        apart : x ≡ a → ⊥
        apart q = omega (arith, zx, times_self x a q)

        bound : (next ≤ records_in bs) × (after ≤ records_in bs) × (first ≤ records_in bs)
        bound = bounds (most n1 post (run1 t)) (most n2 rest run2)

        k : Linked bs a x new next after first cs
        k =
            relinked bs a x new next after first t.pos ix.0 apart (omega (arith, t.most, v.header.size.long)) (omega (arith, ix.1, v.header.size.long)) fits
            (omega (arith, bound.0, v.header.size.most)) (omega (arith, bound.1, v.header.size.most)) (omega (arith, bound.2, v.header.size.most))

        links : (ms : List ℕ) → Within (records_in bs) ms → times x ms ≡ 0 → times a ms ≡ 0 → AllByRecursion (λ j. next_at cs j ≡ next_at bs j) ms
        links ms w p q = all_but x a (records_in bs) (λ j. next_at cs j ≡ next_at bs j) ms w p q k.edited.nexts

        same : (ms : List ℕ) → Within (records_in bs) ms → times x ms ≡ 0 → AllByRecursion (λ j. item_at cs j ≡ item_at bs j) ms
        same ms w p = all_but x x (records_in bs) (λ j. item_at cs j ≡ item_at bs j) ms w p p (λ j l n _. k.edited.items j l n)

  -- an item starts at s
  starts : (s : ℕ) → some_item (has_start s) (items bs (o + 1)) ≡ true → (item_at bs (record_by bs o s)).start ≡ s
  starts s h = eqb-true _ _ (sym (start_tells (items bs (o + 1)) (lawful_ascends (items bs (o + 1)) (at.lawful bs o v)) s (item_at bs (record_by bs o s)) (at.found bs o v s)) ∙ h)

  extend_spells : (s p : ℕ) → cause_in (items bs (o + 1)) (length (path bs (free_in bs))) (Extend s p) ≡ None → Spells bs o (Extend s p) (chained_writes bs o (Extend s p))
  unfolding chained_writes
  extend_spells s p clear =
      let k = record_by bs o s in
      let there = not-false _ (either_none (no_start s (items bs (o + 1))) _ _ (either_none (too_large s || too_large p) _ _ clear).1).0 in
      let asc = lawful_ascends (items bs (o + 1)) (at.lawful bs o v) in
      let span = ascends_spanned (items bs (o + 1)) (item_at bs k) asc (find_is (items bs (o + 1)) s (item_at bs k) (ascends_sorted (items bs (o + 1)) asc) (at.found bs o v s)).0 in
      let w = at.placed bs o v s in
      in_place (with_end bs k (max (item_at bs k).«end» p)) (Extend s p) s (raise p) (starts s there)
      (end_put bs k w.0 w.2 (max (item_at bs k).«end» p) (omega (arith, span.1, (extend_needs (items bs (o + 1)) (length (path bs (free_in bs))) s p clear).early)))
      refl clear refl

  seal_spells : (s : ℕ) → cause_in (items bs (o + 1)) (length (path bs (free_in bs))) (Seal s) ≡ None → Spells bs o (Seal s) (chained_writes bs o (Seal s))
  unfolding chained_writes
  seal_spells s clear =
      let there = not-false _ (either_none (no_start s (items bs (o + 1))) _ _ (either_none (too_large s) _ _ clear).1).0 in
      let w = at.placed bs o v s in
      in_place (with_mark bs (record_by bs o s) 0) (Seal s) s seal_item (starts s there) (mark_put bs (record_by bs o s) w.0 w.2 0 (omega arith)) refl clear refl

  put_spells : (p mark n : ℕ) → cause_in (items bs (o + 1)) (length (path bs (free_in bs))) (Put p mark n) ≡ None → n < 2 ^ 64 → Spells bs o (Put p mark n) (chained_writes bs o (Put p mark n))
  unfolding chained_writes
  put_spells p mark n clear fits =
      let need = put_needs (items bs (o + 1)) (length (path bs (free_in bs))) p mark n clear in
      let new = fresh_item p mark n in
      let a = record_by bs o p in
      let x = free_in bs in
      let rest = path bs (next_at bs x) in
      let s = at.slotted bs o v new in
      let first = at.spare bs o v need.room_left in
      relinks (Put p mark n) a x new (next_at bs a) x (next_at bs x) s.pre s.post s.post rest (next_at bs a) (next_at bs x) s.chain (first.pos, first.most)
      (λ t. t.rest) first.run (λ y. omega (arith, ap (times y) first.chain, times_cons y x rest))
      (record { start = omega (arith, need.early); «end» = omega (arith, need.early); mark = omega (arith, need.marked); number = fits })
      (λ l m. (l, first.most, m)) (x ∷ s.post) rest (new ∷ map (item_at bs) s.post)
      (λ k h. (k.linked, subst (λ j. 0 < j) (sym k.linked) first.pos, subst (λ j. j ≤ records_in bs) (sym k.linked) first.most, subst (λ j. Run (link bs a x new) (records_in bs) j s.post) (sym (ap (next_at (link bs a x new)) k.linked ∙ k.link)) h))
      (λ k h. subst (λ j. Run (link bs a x new) (records_in bs) j rest) (sym k.free) h)
      (λ y. omega (arith, times_cons y x s.post))
      (λ k h. blanks_same bs (link bs a x new) rest h (subst (AllByRecursion (λ j. blank bs j ≡ true)) first.chain blanks).1)
      (λ k h. ap (λ y. y ∷ map (item_at (link bs a x new)) s.post) k.item ∙ ap (λ ys. new ∷ ys) h)
      s.items clear (omega (arith, ap length first.chain))

  drop_spells : (s : ℕ) → cause_in (items bs (o + 1)) (length (path bs (free_in bs))) (Drop s) ≡ None → Spells bs o (Drop s) (chained_writes bs o (Drop s))
  unfolding chained_writes
  drop_spells s clear =
      let need = drop_needs (items bs (o + 1)) (length (path bs (free_in bs))) s clear in
      let x = record_by bs o s in
      let a = record_by bs o (s - 1) in
      let rest = path bs (free_in bs) in
      let w = at.placed bs o v s in
      let nz = first_stays s (item_at bs (o + 1)) (map (item_at bs) (at.later bs o v)) (at.first bs o v) (ap (λ ns. version_at s (map (item_at bs) ns)) (sym (at.chain bs o v)) ∙ need.token) in
      let d = at.cut_at bs o v s (omega (arith, (at.first bs o v).0, eqb-false (item_at bs (o + 1)).start s nz)) (starts s need.there) in
      relinks (Drop s) a x blank_item (free_in bs) (next_at bs x) x d.pre (x ∷ d.post) d.post rest (next_at bs x) (free_in bs) d.chain (w.0, w.1)
      (λ t. subst (λ j. Run bs (records_in bs) (next_at bs j) d.post) t.rest.0 t.rest.3) spare (λ y. omega (arith, times_cons y x d.post))
      (record { start = omega arith; «end» = omega arith; mark = omega arith; number = omega arith })
      (λ l m. (m, l, w.1)) d.post (x ∷ rest) (map (item_at bs) d.post)
      (λ k h. subst (λ j. Run (unlink bs a x) (records_in bs) j d.post) (sym k.linked) h)
      (λ k h. (k.free, subst (λ j. 0 < j) (sym k.free) w.0, subst (λ j. j ≤ records_in bs) (sym k.free) w.1, subst (λ j. Run (unlink bs a x) (records_in bs) j rest) (sym (ap (next_at (unlink bs a x)) k.free ∙ k.link)) h))
      (λ y. omega (arith, times_cons y x rest))
      (λ k h. (ap (λ i. eqb i.start 0 && eqb i.«end» 0 && eqb i.mark 0 && eqb i.number 0) k.item, blanks_same bs (unlink bs a x) rest h blanks))
      (λ k h. h)
      (cut_items bs s a x (path bs (o + 1)) d (at.sorted bs o v) (starts s need.there)) clear (omega arith)

-- an operation that is not turned down is on an object of the store
pub accepted_in : (bs : List ℕ) (o : ℕ) (op : Op) → cause_of (meaning bs) o op ≡ None → (o < served bs) × (cause_in (items bs (o + 1)) (length (path bs (free_in bs))) op ≡ None)
unfolding meaning
accepted_in bs o op c =
    let l : o < served bs = omega (arith, objects_are bs, leb-false _ _ (either_none (leb (objects_of (meaning bs)) o) _ _ c).0) in
    (l, sym (cause_at bs o op l) ∙ c)

pub writes_stand_lem : WritesStand
unfolding chained_writes
writes_stand_lem bs o (Find p) l c f = record { lawful = l; objects = refl; chains = sym (set-get_or (meaning bs).chains o []); rooms = λ k. refl }
writes_stand_lem bs o At l c f = record { lawful = l; objects = refl; chains = sym (set-get_or (meaning bs).chains o []); rooms = λ k. refl }
writes_stand_lem bs o (Extend s p) l c f = let q = accepted_in bs o (Extend s p) c in extend_spells bs o (serves bs o q.0) s p q.1
writes_stand_lem bs o (Put p mark n) l c f = let q = accepted_in bs o (Put p mark n) c in put_spells bs o (serves bs o q.0) p mark n q.1 f
writes_stand_lem bs o (Seal s) l c f = let q = accepted_in bs o (Seal s) c in seal_spells bs o (serves bs o q.0) s q.1
writes_stand_lem bs o (Drop s) l c f = let q = accepted_in bs o (Drop s) c in drop_spells bs o (serves bs o q.0) s q.1
