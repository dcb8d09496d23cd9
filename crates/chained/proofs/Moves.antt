-- What bytes spell after a change of one object's chain and of the free chain.
use Rattle.std.proofs.Common.{◌≡◌, ℕ, ◌+◌, ◌-◌, ◌<◌, ◌≤◌, true, cond, ◌&&◌, eqb, List, [], ◌∷◌, ◌++◌, map, length, get_or, set, None, sum_by, sym, refl, ap, ◌∙◌, subst, ⊎_elim, arith}
use Rattle.std.specs.List.{AllByRecursion}
use Rattle.std.proofs.lemmas.List.{ext_get_or, length-map, length-set, get_or-map, get_or-set_same, get_or-set_other}
use Rattle.std.proofs.lemmas.List.Sums.{sum_by-set, sum_by-append, get_or-le-sum_by}
use Rattle.std.proofs.lemmas.Bool.{cases_eq, cond-true, eq-eqb}
use Rattle.history.specs.Meaning.{Op, applied, cause_in}
use Rattle.history.proofs.Finds.{histories_stand_lem}
use Rattle.layout.specs.Field.{num}
use Rattle.layout.specs.Layout.{objects_in, records_in, free_in, item_at, next_at, path, paths, items, times, blank, history, header}
use Rattle.chained.specs.Means.{meaning}
use Rattle.chained.specs.Laws.{Spells, room_after}
use Rattle.layout.proofs.Runs.{Run, trail_within}
use Rattle.layout.proofs.Totals.{Within, times_cons}
use Rattle.layout.proofs.Histories.{history_parts, history_from}
use Rattle.chained.specs.Served.{Serves, chains_are, room_is}
use Rattle.layout.proofs.Represents.{Represents, represented, path_at, same}
use Rattle.chained.proofs.Edited.{Edited}

-- counts

pub times_self : (x y : ℕ) → x ≡ y → ◌≡◌ {A = ℕ} (cond (eqb x y) 1 0) 1
times_self x y e = cond-true (eqb x y) 1 0 (eq-eqb x y e)

pub times_mid : (y : ℕ) (pre : List ℕ) (a : ℕ) (post : List ℕ) → times y (pre ++ (a ∷ post)) ≡ times y pre + (cond (eqb y a) 1 0 + times y post)
times_mid y pre a post = sum_by-append (λ k. cond (eqb y k) 1 0) pre (a ∷ post) ∙ ap (λ n. times y pre + n) (times_cons y a post)

-- what holds of each record but x and a holds in a list that has neither
pub all_but : (x a m : ℕ) (P : ℕ → Type 0) (ns : List ℕ) → Within m ns → times x ns ≡ 0 → times a ns ≡ 0 → ((j : ℕ) → 0 < j → (j ≡ x → ⊥) → (j ≡ a → ⊥) → P j) → AllByRecursion P ns
all_but x a m P [] w zx za f = tt
all_but x a m P (k ∷ ks) w zx za f =
    let cx = times_cons x k ks in
    let ca = times_cons a k ks in (
      f k w.0.0 (λ e. omega (arith, times_self x k (sym e))) (λ e. omega (arith, times_self a k (sym e))),
      all_but x a m P ks w.1 (omega arith) (omega arith) f,
    )

-- chains of which one changes
map_set : {X Y : Type 0} (f g : X → Y) (xs : List X) (o : ℕ) (d x : X) (y : Y) → o < length xs → ((j : ℕ) → j < length xs → (j ≡ o → ⊥) → f (get_or xs j d) ≡ g (get_or xs j d)) → f x ≡ y → map f (set xs o x) ≡ set (map g xs) o y
map_set f g xs o d x y l h e =
    ext_get_or (f d) (map f (set xs o x)) (set (map g xs) o y)
    (length-map (set xs o x) f ∙ length-set xs o x ∙ sym (length-set (map g xs) o y ∙ length-map xs g))
    (λ j b.
    let c : j < length xs = omega (arith, length-map (set xs o x) f, length-set xs o x) in
    get_or-map f (set xs o x) j d (f d) (omega (arith, length-set xs o x))
    ∙ ⊎_elim
    (λ q.
    ap (λ i. f (get_or (set xs o x) i d)) q ∙ ap f (get_or-set_same xs o x d l) ∙ e
    ∙ sym (ap (λ i. get_or (set (map g xs) o y) i (f d)) q ∙ get_or-set_same (map g xs) o y (f d) (omega (arith, length-map xs g))))
    (λ q. ap f (get_or-set_other xs o j x d q) ∙ h j c q ∙ sym (get_or-set_other (map g xs) o j y (f d) q ∙ get_or-map g xs j d (f d) c))
    (cases_eq j o))

pub map_same : (bs cs ns : List ℕ) → AllByRecursion (λ y. item_at cs y ≡ item_at bs y) ns → map (item_at cs) ns ≡ map (item_at bs) ns
map_same bs cs [] h = refl
map_same bs cs (k ∷ ks) h = ap (λ y. y ∷ map (item_at cs) ks) h.0 ∙ ap (λ ys. item_at bs k ∷ ys) (map_same bs cs ks h.1)

-- runs

pub run_kept : (bs cs : List ℕ) (m k : ℕ) (ns : List ℕ) → AllByRecursion (λ j. next_at cs j ≡ next_at bs j) ns → Run bs m k ns → Run cs m k ns
run_kept bs cs m k [] h r = r
run_kept bs cs m k (x ∷ xs) h r =
    let e : next_at cs k ≡ next_at bs k = ap (next_at cs) r.0 ∙ h.0 ∙ sym (ap (next_at bs) r.0) in
    (r.0, r.1, r.2, subst (λ j. Run cs m j xs) (sym e) (run_kept bs cs m (next_at bs k) xs h.1 r.3))

-- a run through record a
pub record Through (bs : List ℕ) (m : ℕ) (pre : List ℕ) (a : ℕ) (post : List ℕ) : Type 0 where
  pub fore : Within m pre
  pub pos : 0 < a
  pub most : a ≤ m
  pub rest : Run bs m (next_at bs a) post

pub through : (bs : List ℕ) (m k : ℕ) (pre : List ℕ) (a : ℕ) (post : List ℕ) → Run bs m k (pre ++ (a ∷ post)) → Through bs m pre a post
through bs m k [] a post r =
    record { fore = tt; pos = subst (λ j. 0 < j) r.0 r.1; most = subst (λ j. j ≤ m) r.0 r.2; rest = subst (λ j. Run bs m (next_at bs j) post) r.0 r.3 }
through bs m k (p ∷ pre) a post r =
    let t = through bs m (next_at bs k) pre a post r.3 in
    record { fore = ((omega arith, omega arith), t.fore); pos = t.pos; most = t.most; rest = t.rest }

-- another run after a
pub run_join : (bs cs : List ℕ) (m k : ℕ) (pre : List ℕ) (a : ℕ) (post ns : List ℕ) → Run bs m k (pre ++ (a ∷ post)) → AllByRecursion (λ j. next_at cs j ≡ next_at bs j) pre → Run cs m (next_at cs a) ns → Run cs m k (pre ++ (a ∷ ns))
run_join bs cs m k [] a post ns r h t = (r.0, r.1, r.2, subst (λ j. Run cs m (next_at cs j) ns) (sym r.0) t)
run_join bs cs m k (p ∷ pre) a post ns r h t =
    let e : next_at cs k ≡ next_at bs k = ap (next_at cs) r.0 ∙ h.0 ∙ sym (ap (next_at bs) r.0) in
    (r.0, r.1, r.2, subst (λ j. Run cs m j (pre ++ (a ∷ ns))) (sym e) (run_join bs cs m (next_at bs k) pre a post ns r.3 h.1 t))

-- blanks
pub blank_same : (bs cs : List ℕ) (k : ℕ) → item_at cs k ≡ item_at bs k → blank cs k ≡ blank bs k
blank_same bs cs k e = ap (λ i. eqb i.start 0 && eqb i.«end» 0 && eqb i.mark 0 && eqb i.number 0) e

pub blanks_same : (bs cs ns : List ℕ) → AllByRecursion (λ y. item_at cs y ≡ item_at bs y) ns → AllByRecursion (λ y. blank bs y ≡ true) ns → AllByRecursion (λ y. blank cs y ≡ true) ns
blanks_same bs cs [] e h = tt
blanks_same bs cs (n ∷ ns) e h = (blank_same bs cs n e.0 ∙ h.0, blanks_same bs cs ns e.1 h.1)

header_same : (bs cs : List ℕ) → length cs ≡ length bs → num cs 0 4 ≡ num bs 0 4 → objects_in cs ≡ objects_in bs → records_in cs ≡ records_in bs → num cs 10 22 ≡ num bs 10 22 → header cs ≡ header bs
header_same bs cs a b c d e = cc

module _ (bs : List ℕ) (o : ℕ) (v : Serves bs o) where
  represents : Represents bs (paths bs) (path bs (free_in bs))
  represents = represented bs v.lawful

  inside : o < length (paths bs)
  inside = omega (arith, represents.count, v.below)

  once : (y : ℕ) → 0 < y → y ≤ records_in bs → times y (path bs (free_in bs)) + sum_by (times y) (paths bs) ≡ 1
  once y p l =
      let e : y - 1 + 1 ≡ y = omega arith in
      subst (λ i. times i (path bs (free_in bs)) + sum_by (times i) (paths bs) ≡ 1) e (represents.once (y - 1) (omega arith))

  -- a record is once in the free chain and the object's
  pub few : (y : ℕ) → 0 < y → y ≤ records_in bs → times y (path bs (free_in bs)) + times y (path bs (o + 1)) ≤ 1
  few y p l = omega (arith, once y p l, get_or-le-sum_by (times y) (paths bs) o [] inside, ap (times y) (path_at bs o v.below))

  -- and then in no other
  alone : (y : ℕ) → 0 < y → y ≤ records_in bs → 1 ≤ times y (path bs (free_in bs)) + times y (path bs (o + 1)) → (j : ℕ) → j < length (paths bs) → (j ≡ o → ⊥) → times y (get_or (paths bs) j []) ≡ 0
  alone y p l here j b ne =
      let s : sum_by (times y) (set (paths bs) o []) + times y (get_or (paths bs) o []) ≡ sum_by (times y) (paths bs) + 0 = sum_by-set (times y) (paths bs) o [] [] inside in
      let t : times y (get_or (set (paths bs) o []) j []) ≤ sum_by (times y) (set (paths bs) o []) = get_or-le-sum_by (times y) (set (paths bs) o []) j [] (omega (arith, length-set (paths bs) o [])) in
      let u : times y (get_or (set (paths bs) o []) j []) ≡ times y (get_or (paths bs) j []) = ap (times y) (get_or-set_other (paths bs) o j [] [] ne) in
      omega (arith, once y p l, ap (times y) (path_at bs o v.below))

  module _ (cs : List ℕ) (a x : ℕ) (e : Edited bs a x cs) (op : Op) (ns free : List ℕ) where
    -- the object's records are ns, and the free ones `free`
    pub spells :
        (0 < x) × (x ≤ records_in bs) × (1 ≤ times x (path bs (free_in bs)) + times x (path bs (o + 1))) →
        (0 < a) × (a ≤ records_in bs) × (1 ≤ times a (path bs (free_in bs)) + times a (path bs (o + 1))) →
        Run cs (records_in bs) (o + 1) ns →
        Run cs (records_in bs) (free_in cs) free →
        ((y : ℕ) → times y free + times y ns ≡ times y (path bs (free_in bs)) + times y (path bs (o + 1))) →
        AllByRecursion (λ k. blank cs k ≡ true) free →
        map (item_at cs) ns ≡ applied (items bs (o + 1)) op →
        cause_in (items bs (o + 1)) (length (path bs (free_in bs))) op ≡ None →
        length free ≡ room_after op (length (path bs (free_in bs))) →
        Spells bs o op cs
    spells ix ia run spare counts blanks is clear room =
        record {
          lawful = (same cs css free after).lawful;
          objects = eo;
          chains =
              chains_are cs css free after
              ∙ map_set (map (item_at cs)) (map (item_at bs)) (paths bs) o [] ns (applied (items bs (o + 1)) op) inside others is
              ∙ ap (λ xss. set xss o (applied (items bs (o + 1)) op)) (sym (chains_are bs (paths bs) (path bs (free_in bs)) represents))
              ∙ ap (λ xs. set (meaning bs).chains o (applied xs op)) (sym v.chain);
          rooms = λ k. room_is cs css free after k ∙ room ∙ ap (room_after op) (sym (room_is bs (paths bs) (path bs (free_in bs)) represents k));
        }
      where
        css : List (List ℕ)
        css = set (paths bs) o ns

        eo : objects_in cs ≡ objects_in bs
        eo = e.front 4 2 (omega arith)

        er : records_in cs ≡ records_in bs
        er = e.front 6 2 (omega arith)

        here : get_or css o [] ≡ ns
        here = get_or-set_same (paths bs) o ns [] inside

        none : (P : ℕ → Type 0) → ((j : ℕ) → 0 < j → (j ≡ x → ⊥) → (j ≡ a → ⊥) → P j) → (j : ℕ) → j < length (paths bs) → (j ≡ o → ⊥) → AllByRecursion P (get_or (paths bs) j [])
        none P f j l n =
            all_but x a (records_in bs) P (get_or (paths bs) j [])
            (trail_within bs (records_in bs) (j + 1) (get_or (paths bs) j []) 0 (represents.runs j (omega (arith, represents.count))))
            (alone x ix.0 ix.1 ix.2 j l n) (alone a ia.0 ia.1 ia.2 j l n) f

        others : (j : ℕ) → j < length (paths bs) → (j ≡ o → ⊥) → map (item_at cs) (get_or (paths bs) j []) ≡ map (item_at bs) (get_or (paths bs) j [])
        others j l n = map_same bs cs (get_or (paths bs) j []) (none _ (λ i p q _. e.items i p q) j l n)

        runs : (j : ℕ) → j < objects_in bs → Run cs (records_in bs) (j + 1) (get_or css j [])
        runs j l =
            ⊎_elim
            (λ q. subst (λ i. Run cs (records_in bs) (i + 1) (get_or css i [])) (sym q) (subst (Run cs (records_in bs) (o + 1)) (sym here) run))
            (λ n.
            subst (Run cs (records_in bs) (j + 1)) (sym (get_or-set_other (paths bs) o j ns [] n))
            (run_kept bs cs (records_in bs) (j + 1) (get_or (paths bs) j []) (none _ e.nexts j (omega (arith, represents.count)) n) (represents.runs j l)))
            (cases_eq j o)

        rules : (j : ℕ) → j < objects_in bs → history (map (item_at cs) (get_or css j [])) ≡ true
        rules j l =
            ⊎_elim
            (λ q.
            ap (λ i. history (map (item_at cs) (get_or css i []))) q ∙ ap (λ ms. history (map (item_at cs) ms)) here ∙ ap history is
            ∙ history_from _ (histories_stand_lem (items bs (o + 1)) (length (path bs (free_in bs))) op (history_parts _ v.rules) clear).lawful)
            (λ n. ap (λ ms. history (map (item_at cs) ms)) (get_or-set_other (paths bs) o j ns [] n) ∙ ap history (others j (omega (arith, represents.count)) n) ∙ represents.rules j l)
            (cases_eq j o)

        after : Represents cs css free
        after =
            record {
              header = header_same bs cs e.size (e.front 0 4 (omega arith)) eo er e.back ∙ represents.header;
              count = length-set (paths bs) o ns ∙ represents.count ∙ sym eo;
              pads = λ j l. e.pads (j + 1) (omega arith) ∙ represents.pads j (omega (arith, er));
              runs = λ j l. subst (λ m. Run cs m (j + 1) (get_or css j [])) (sym er) (runs j (omega (arith, eo)));
              spare = subst (λ m. Run cs m (free_in cs) free) (sym er) spare;
              once = λ j l.
                  omega (
                    arith,
                    once (j + 1) (omega arith) (omega (arith, er)),
                    counts (j + 1),
                    sum_by-set (times (j + 1)) (paths bs) o ns [] inside,
                    ap (times (j + 1)) (path_at bs o v.below),
                  );
              blanks = blanks;
              rules = λ j l. rules j (omega (arith, eo));
            }
