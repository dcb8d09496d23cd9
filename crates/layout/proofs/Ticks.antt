-- What the marks of a walk say of its chain.
use Rattle.std.proofs.Common.{◌≡◌, ℕ, zero, suc, ◌+◌, ◌-◌, ◌<◌, ◌≤◌, Bool, true, false, cond, ◌&&◌, eqb, List, [], ◌∷◌, ◌++◌, map, length, get_or, take, drop, set, replicate, sum_by, sym, refl, ap, ◌∙◌, subst, ⊎_elim, arith}
use Rattle.std.specs.List.{range_with_len, list_all}
use Rattle.std.proofs.lemmas.List.Sums.{sum_by-set, sum_by-append, sum_by-take-le}
use Rattle.std.proofs.lemmas.List.FromFn.{take-map-range_with_len, sum_by-map-range_with_len_more}
use Rattle.std.proofs.lemmas.List.{get_or-set_same, get_or-set_other, get_or-replicate, get_or_past, length-replicate, drop_more}
use Rattle.std.proofs.lemmas.Bool.{cases_eq, cases_lt, eqb-true, eq-eqb, ne_eqb, cond-true, cond-false, cond_both}
use Rattle.layout.specs.Layout.{next_at, path, paths, whole, times, uses, records_in, objects_in, free_in, each_below, threaded}
use Rattle.layout.specs.Marks.{tick, Marked, AllMarked}
use Rattle.layout.proofs.Each.{false_from, below, each_more}
use Rattle.layout.proofs.Parts.{threads}
use Rattle.layout.proofs.Runs.{Trail, Run, trail_more, trail_rest, trail_within, run_ends, walk_run}
use Rattle.layout.proofs.Totals.{total, total_below, total_times, times_cons}

-- a walk that began with the marks ss has passed the records `seen` and marked each of them
pub record Passed (bs : List ℕ) (from k : ℕ) (ss ts : List Bool) : Type 0 where
  pub seen : List ℕ
  pub trail : Trail bs (records_in bs) from seen k
  pub ticks : (y : ℕ) → tick ts y ≡ tick ss y + times y seen

tick_set : (ss : List Bool) (k y : ℕ) → k < length ss → get_or ss k false ≡ false → tick (set ss k true) y ≡ tick ss y + times y (k ∷ [])
tick_set ss k y l f =
    ⊎_elim
    (λ q.
    let a : ◌≡◌ {A = ℕ} (cond (eqb y k) 1 0) 1 = cond-true (eqb y k) 1 0 (eq-eqb y k q) in
    let b : ◌≡◌ {A = ℕ} (tick (set ss k true) y) 1 = cond-true (get_or (set ss k true) y false) 1 0 (ap (λ i. get_or (set ss k true) i false) q ∙ get_or-set_same ss k true false l) in
    let d : ◌≡◌ {A = ℕ} (tick ss y) 0 = cond-false (get_or ss y false) 1 0 (ap (λ i. get_or ss i false) q ∙ f) in
    omega arith)
    (λ q.
    let a : ◌≡◌ {A = ℕ} (cond (eqb y k) 1 0) 0 = cond-false (eqb y k) 1 0 (ne_eqb y k q) in
    let b : tick (set ss k true) y ≡ tick ss y = ap (λ t. cond t 1 0) (get_or-set_other ss k y true false q) in
    omega arith)
    (cases_eq y k)

pub passed_more : (bs : List ℕ) (from k next : ℕ) (ss ts : List Bool) → Passed bs from k ss ts → 0 < k → k ≤ records_in bs → k < length ts → get_or ts k false ≡ false → next ≡ next_at bs k → Passed bs from next ss (set ts k true)
passed_more bs from k next ss ts p z l i f e =
    record {
      seen = p.seen ++ (k ∷ []);
      trail = subst (Trail bs (records_in bs) from (p.seen ++ (k ∷ []))) (sym e) (trail_more bs (records_in bs) from p.seen k p.trail z l);
      ticks = λ y. omega (arith, p.ticks y, tick_set ts k y i f, sum_by-append (λ x. cond (eqb y x) 1 0) p.seen (k ∷ []));
    }

-- each turn leaves one record less without a mark
abbrev pub unmarked : List Bool → ℕ
unmarked ss = sum_by (λ b. cond b 0 1) ss

pub unmarked_less : (ss : List Bool) (k : ℕ) → k < length ss → get_or ss k false ≡ false → unmarked (set ss k true) < unmarked ss
unmarked_less ss k l f =
    let a : ◌≡◌ {A = ℕ} (cond (get_or ss k false) 0 1) 1 = cond-false (get_or ss k false) 0 1 f in
    omega (arith, sum_by-set (λ b. cond b 0 1) ss k true false l)

tick_low : (ss : List Bool) (y : ℕ) → tick ss y ≤ 1
tick_low ss y = cond_both (get_or ss y false) 1 0 (λ x. x ≤ 1) (λ e. omega arith) (λ e. omega arith)

pub passed_all : (bs : List ℕ) (from k : ℕ) (ss ts : List Bool) → Passed bs from k ss ts → k ≡ 0 → Marked bs from ss ts true
passed_all bs from k ss ts p e =
    let r : Run bs (records_in bs) from p.seen = subst (Trail bs (records_in bs) from p.seen) e p.trail in
    let a : total (records_in bs) (λ i. times (i + 1) p.seen) ≡ length p.seen = total_times (records_in bs) p.seen (trail_within bs (records_in bs) from p.seen 0 r) in
    let b : total (records_in bs) (λ i. times (i + 1) p.seen) ≤ records_in bs = total_below (records_in bs) _ (λ i. omega (arith, p.ticks (i + 1), tick_low ts (i + 1))) in
    let w : (path bs from ≡ p.seen) × (whole bs from ≡ true) = walk_run bs (records_in bs) (records_in bs) from p.seen r (omega arith) in
    (w.1, λ y. p.ticks y ∙ ap (λ ns. tick ss y + times y ns) (sym w.0))

-- the walk stops at a record k that is past the table or marked
pub passed_out : (bs : List ℕ) (from k : ℕ) (ss ts : List Bool) → Passed bs from k ss ts → (k ≡ 0 → ⊥) → (k ≤ records_in bs → get_or ts k false ≡ true) → Marked bs from ss ts false
passed_out bs from k ss ts p z h w = at _ _ refl q.1 q.2
  where
    q : (rest : List ℕ) × (path bs from ≡ p.seen ++ rest) × Run bs (records_in bs) k rest
    q = trail_rest bs (records_in bs) from p.seen k (path bs from) p.trail (run_ends bs (records_in bs) (records_in bs) from w)

    at : (ns rest : List ℕ) → path bs from ≡ ns → ns ≡ p.seen ++ rest → Run bs (records_in bs) k rest → (y : ℕ) × (0 < y) × (y ≤ records_in bs) × (2 ≤ tick ss y + times y (path bs from))
    at ns [] e f r = absurd (z r)
    at ns (x ∷ xs) e f r =
        let a : ◌≡◌ {A = ℕ} (tick ts k) 1 = cond-true (get_or ts k false) 1 0 (h r.2) in
        let b : times k (path bs from) ≡ times k p.seen + times k (x ∷ xs) = ap (times k) (e ∙ f) ∙ sum_by-append (λ i. cond (eqb k i) 1 0) p.seen (x ∷ xs) in
        let d : ◌≡◌ {A = ℕ} (cond (eqb k x) 1 0) 1 = cond-true (eqb k x) 1 0 (eq-eqb k x r.0) in
        (k, r.1, r.2, omega (arith, p.ticks k, times_cons k x xs))

abbrev pub some_paths : List ℕ → ℕ → List (List ℕ)
some_paths bs n = map (λ o. path bs (o + 1)) (range_with_len 0 n)

-- all chains below object o are marked, and the free one
pub record Ticked (bs : List ℕ) (o : ℕ) (ts : List Bool) : Type 0 where
  pub chains : each_below o (λ i. whole bs (i + 1)) ≡ true
  pub spare : whole bs (free_in bs) ≡ true
  pub ticks : (y : ℕ) → tick ts y ≡ times y (path bs (free_in bs)) + sum_by (times y) (some_paths bs o)

pub ticked_none : (bs : List ℕ) (free : ℕ) (ss ts : List Bool) → free ≡ free_in bs → ((y : ℕ) → tick ss y ≡ 0) → Marked bs free ss ts true → Ticked bs 0 ts
ticked_none bs free ss ts e z h =
    record {
      chains = refl;
      spare = ap (whole bs) (sym e) ∙ h.0;
      ticks = λ y. omega (arith, h.1 y, z y, ap (λ k. times y (path bs k)) e);
    }

pub ticked_more : (bs : List ℕ) (o : ℕ) (ss ts : List Bool) → Ticked bs o ss → Marked bs (o + 1) ss ts true → Ticked bs (o + 1) ts
ticked_more bs o ss ts t h =
    record {
      chains = each_more o (λ i. whole bs (i + 1)) t.chains h.0;
      spare = t.spare;
      ticks = λ y. omega (arith, h.1 y, t.ticks y, sum_by-map-range_with_len_more (times y) (λ i. path bs (i + 1)) 0 o o (omega arith));
    }

-- a record that is met twice
twice : (bs : List ℕ) (from : ℕ) (ss ts : List Bool) → Marked bs from ss ts false → (threaded bs ≡ true → whole bs from ≡ true) → ((y : ℕ) → tick ss y + times y (path bs from) ≤ uses bs y) → threaded bs ≡ false
twice bs from ss ts h w u =
    false_from _
    (λ t.
    let q = h (w t) in
    let i : q.0 - 1 < records_in bs = omega (arith, q.1, q.2) in
    let e : uses bs (q.0 - 1 + 1) ≡ uses bs q.0 = ap (uses bs) (omega (arith, q.1)) in
    omega (arith, q.3, u q.0, eqb-true (uses bs (q.0 - 1 + 1)) 1 (below _ _ (threads bs t).once (q.0 - 1) i)))

pub twice_free : (bs : List ℕ) (free : ℕ) (ss ts : List Bool) → free ≡ free_in bs → ((y : ℕ) → tick ss y ≡ 0) → Marked bs free ss ts false → threaded bs ≡ false
twice_free bs free ss ts e z h =
    twice bs free ss ts h (λ t. ap (whole bs) e ∙ (threads bs t).spare) (λ y. omega (arith, z y, ap (λ k. times y (path bs k)) e))

pub twice_at : (bs : List ℕ) (o : ℕ) (ss ts : List Bool) → Ticked bs o ss → o < objects_in bs → Marked bs (o + 1) ss ts false → threaded bs ≡ false
twice_at bs o ss ts t l h =
    twice bs (o + 1) ss ts h (λ w. below _ _ (threads bs w).chains o l)
    (λ y.
    let c : sum_by (times y) (take (o + 1) (paths bs)) ≡ sum_by (times y) (some_paths bs (o + 1)) =
    ap (sum_by (times y)) (take-map-range_with_len (λ o. path bs (o + 1)) 0 (objects_in bs) (o + 1) (omega arith)) in
    omega (arith, t.ticks y, sum_by-map-range_with_len_more (times y) (λ i. path bs (i + 1)) 0 o o (omega arith), sum_by-take-le (times y) (paths bs) (o + 1)))

pub tick_none : (n y : ℕ) → tick (replicate n false) y ≡ 0
tick_none n y =
    ⊎_elim
    (λ l. cond-false (get_or (replicate n false) y false) 1 0 (get_or-replicate n y false false l))
    (λ l. cond-false (get_or (replicate n false) y false) 1 0 (get_or_past (replicate n false) y false (omega (arith, length-replicate n false))))
    (cases_lt y n)

-- what the marks say of each record
mark_is : (b : Bool) (n : ℕ) → ◌≡◌ {A = ℕ} (cond b 1 0) n → b ≡ eqb n 1
mark_is true n e = sym (eq-eqb n 1 (sym e))
mark_is false n e = sym (ne_eqb n 1 (λ q. omega (arith, e)))

marks_are : (bs : List ℕ) (ts : List Bool) → ((y : ℕ) → tick ts y ≡ uses bs y) → (a m : ℕ) → a + 1 + m ≤ length ts → list_all (λ b. b) (take m (drop (a + 1) ts)) ≡ list_all (λ k. eqb (uses bs (k + 1)) 1) (range_with_len a m)
marks_are bs ts h a zero l = refl
marks_are bs ts h a (suc m) l =
    let e : take (suc m) (drop (a + 1) ts) ≡ get_or ts (a + 1) false ∷ take m (drop (a + 1 + 1) ts) = ap (take (suc m)) (drop_more ts (a + 1) false (omega arith)) in
    let b : get_or ts (a + 1) false ≡ eqb (uses bs (a + 1)) 1 = mark_is _ _ (h (a + 1)) in
    ap (list_all (λ b. b)) e ∙ ap (λ t. t && list_all (λ b. b) (take m (drop (a + 1 + 1) ts))) b
    ∙ ap (λ t. eqb (uses bs (a + 1)) 1 && t) (marks_are bs ts h (a + 1) m (omega arith))

pub marks_decide : (bs : List ℕ) (ts : List Bool) (n : ℕ) (r : Bool) → AllMarked bs ts true → n ≡ records_in bs → records_in bs < length ts → r ≡ list_all (λ b. b) (take n (drop 1 ts)) → r ≡ threaded bs
marks_decide bs ts n r h e l a =
    let c : threaded bs ≡ each_below (records_in bs) (λ k. eqb (uses bs (k + 1)) 1) = rw (h.0, h.1) refl in
    a ∙ ap (λ i. list_all (λ b. b) (take i (drop 1 ts))) e ∙ marks_are bs ts h.2 0 (records_in bs) (omega arith) ∙ sym c
