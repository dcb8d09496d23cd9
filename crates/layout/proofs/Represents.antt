-- The lists of record numbers that bytes represent.
use Rattle.std.proofs.Common.{◌≡◌, ℕ, ◌+◌, ◌<◌, Bool, true, List, [], ◌∷◌, map, length, get_or, sum_by, sym, refl, ap, ◌∙◌, subst, zero-add, arith}
use Rattle.std.specs.List.{AllByRecursion, list_all}
use Rattle.std.proofs.lemmas.List.Sums.{get_or-le-sum_by}
use Rattle.std.proofs.ByRecursion.{All-from_get_or}
use Rattle.std.proofs.lemmas.List.FromFn.{length-map-range_with_len, get_or-map-range_with_len, fill_by_all}
use Rattle.std.proofs.lemmas.Bool.{eqb-true, eq-eqb, and_parts, and_from}
use Rattle.layout.specs.Layout.{objects_in, records_in, free_in, item_at, pad_at, path, paths, whole, times, uses, blank, history, header, lawful}
use Rattle.layout.proofs.Each.{below, below_from}
use Rattle.layout.proofs.Parts.{Parts, parts, from_parts}
use Rattle.layout.proofs.Runs.{Run, run_ends, walk_run, trail_within}
use Rattle.layout.proofs.Totals.{Within, total, total_same, total_plus, total_ones, total_times, total_all}

-- css has the records of each object's chain, and free those of the free chain
pub record Represents (bs : List ℕ) (css : List (List ℕ)) (free : List ℕ) : Type 0 where
  pub header : header bs ≡ true
  pub count : length css ≡ objects_in bs
  pub pads : (k : ℕ) → k < records_in bs → pad_at bs (k + 1) ≡ 0
  pub runs : (o : ℕ) → o < objects_in bs → Run bs (records_in bs) (o + 1) (get_or css o [])
  pub spare : Run bs (records_in bs) (free_in bs) free
  pub once : (k : ℕ) → k < records_in bs → times (k + 1) free + sum_by (times (k + 1)) css ≡ 1
  pub blanks : AllByRecursion (λ k. blank bs k ≡ true) free
  pub rules : (o : ℕ) → o < objects_in bs → history (map (item_at bs) (get_or css o [])) ≡ true

pub each_parts : (ks : List ℕ) (t : ℕ → Bool) → list_all t ks ≡ true → AllByRecursion (λ k. t k ≡ true) ks
each_parts [] t h = tt
each_parts (k ∷ ks) t h = let p = and_parts (t k) (list_all t ks) h in (p.0, each_parts ks t p.1)

pub each_from : (ks : List ℕ) (t : ℕ → Bool) → AllByRecursion (λ k. t k ≡ true) ks → list_all t ks ≡ true
each_from [] t h = refl
each_from (k ∷ ks) t h = and_from (t k) (list_all t ks) h.0 (each_from ks t h.1)

-- lawful bytes represent their paths
pub path_at : (bs : List ℕ) (o : ℕ) → o < objects_in bs → get_or (paths bs) o [] ≡ path bs (o + 1)
path_at bs o l = get_or-map-range_with_len (λ o. path bs (o + 1)) 0 (objects_in bs) o o [] l (zero-add o)

pub represented : (bs : List ℕ) → lawful bs ≡ true → Represents bs (paths bs) (path bs (free_in bs))
represented bs h =
    let p : Parts bs = parts bs h in
    record {
      header = p.header;
      count = length-map-range_with_len (λ o. path bs (o + 1)) 0 (objects_in bs);
      pads = λ k l. eqb-true _ _ (below _ _ p.pads k l);
      runs = λ o l. subst (Run bs (records_in bs) (o + 1)) (sym (path_at bs o l)) (run_ends bs (records_in bs) (records_in bs) (o + 1) (below _ _ p.threads.chains o l));
      spare = run_ends bs (records_in bs) (records_in bs) (free_in bs) p.threads.spare;
      once = λ k l. eqb-true _ _ (below _ _ p.threads.once k l);
      blanks = each_parts _ _ p.blanks;
      rules = λ o l. ap (λ ns. history (map (item_at bs) ns)) (path_at bs o l) ∙ below _ _ p.rules o l;
    }

-- what is represented has m records together
pub sizes : (bs : List ℕ) (css : List (List ℕ)) (free : List ℕ) → Represents bs css free → length free + sum_by length css ≡ records_in bs
sizes bs css free r =
    let a : total (records_in bs) (λ k. times (k + 1) free) ≡ length free =
    total_times (records_in bs) free (trail_within bs (records_in bs) (free_in bs) free 0 r.spare) in
    let b : total (records_in bs) (λ k. sum_by (times (k + 1)) css) ≡ sum_by length css =
    total_all (records_in bs) css (All-from_get_or (Within (records_in bs)) css [] (λ o l. trail_within bs (records_in bs) (o + 1) (get_or css o []) 0 (r.runs o (omega (arith, r.count))))) in
    let c : total (records_in bs) (λ k. times (k + 1) free + sum_by (times (k + 1)) css) ≡ total (records_in bs) (λ _. 1) =
    total_same (records_in bs) _ _ r.once in
    omega (arith, total_plus (records_in bs) (λ k. times (k + 1) free) (λ k. sum_by (times (k + 1)) css), total_ones (records_in bs))

-- the paths are what is represented
pub record Same (bs : List ℕ) (css : List (List ℕ)) (free : List ℕ) : Type 0 where
  pub paths : paths bs ≡ css
  pub spare : path bs (free_in bs) ≡ free
  pub lawful : lawful bs ≡ true

pub same : (bs : List ℕ) (css : List (List ℕ)) (free : List ℕ) → Represents bs css free → Same bs css free
same bs css free r = record { paths = ps; spare = f.0; lawful = law }
  where
    sized : length free + sum_by length css ≡ records_in bs
    sized = sizes bs css free r

    f : (path bs (free_in bs) ≡ free) × (whole bs (free_in bs) ≡ true)
    f = walk_run bs (records_in bs) (records_in bs) (free_in bs) free r.spare (omega (arith, sized))

    one : (o : ℕ) → o < objects_in bs → (path bs (o + 1) ≡ get_or css o []) × (whole bs (o + 1) ≡ true)
    one o l = walk_run bs (records_in bs) (records_in bs) (o + 1) (get_or css o []) (r.runs o l) (omega (arith, sized, get_or-le-sum_by length css o [] (omega (arith, r.count))))

    ps : paths bs ≡ css
    ps = sym (fill_by_all (λ o. path bs (o + 1)) css (objects_in bs) [] r.count (λ o l. sym (one o l).0))

    used : (k : ℕ) → uses bs (k + 1) ≡ times (k + 1) free + sum_by (times (k + 1)) css
    used k = ap (λ ns. times (k + 1) ns + sum_by (times (k + 1)) (paths bs)) f.0 ∙ ap (λ nss. times (k + 1) free + sum_by (times (k + 1)) nss) ps

    law : lawful bs ≡ true
    law =
        from_parts bs
        (record {
          header = r.header;
          pads = below_from _ _ (λ k l. eq-eqb _ _ (r.pads k l));
          threads =
              record {
                chains = below_from _ _ (λ o l. (one o l).1);
                spare = f.1;
                once = below_from _ _ (λ k l. eq-eqb (uses bs (k + 1)) 1 (used k ∙ r.once k l));
              };
          blanks = each_from _ _ (subst (AllByRecursion (λ k. blank bs k ≡ true)) (sym f.0) r.blanks);
          rules = below_from _ _ (λ o l. ap (λ ns. history (map (item_at bs) ns)) (one o l).0 ∙ r.rules o l);
        })
