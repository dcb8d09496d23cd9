-- That the lines stay right, as the chains below change.
use Rattle.std.proofs.Common.{◌≡◌, ℕ, ◌%◌, ◌<◌, Bool, true, false, cond, ◌&&◌, eqb, List, [], map, length, get_or, set, Some, None, Ok, Err, Option, Result, sym, refl, ap, ◌∙◌, subst, ⊎_elim, arith}
use Rattle.std.proofs.lemmas.List.{get_or-set_same, get_or-set_other, get_or_past, set-get_or}
use Rattle.std.proofs.lemmas.Bool.{cond-true, cond-false, cond_both, cases_Bool, cases_lt, cases_eq, and_parts, and_from, and_cases, eqb-true, eqb-false, eq-eqb, leb-true, both_ways, not_from_false}
use Rattle.std.specs.Bool.{MatchBool}
use Rattle.history.specs.declared.item.Item.{Item}
use Rattle.history.specs.declared.item.Fault.{Fault}
use Rattle.history.specs.Chain.{has_start, covers, extends, seals, put_in, drop_in, find_in, fresh_item}
use Rattle.history.specs.Members.{◌∈◌}
use Rattle.history.specs.Meaning.{Meaning, Sound, Outcome, Op, answered, applied, chain_of, cause_of}
use Rattle.history.specs.Meaning.Op.{Find, At, Extend, Put, Seal, Drop}
use Rattle.history.proofs.Lists.{in_map}
use Rattle.history.proofs.Chains.{in_keep, in_put_old, found_in, found_covering, ascends_spanned, lawful_ascends, none_some, some_same}
use Rattle.history.proofs.Members.{has_from, has_is}
use Rattle.history.proofs.Outcomes.{find_accepted, find_leaves, ok_accepted, err_chains, accepted_chains}
use Rattle.encache.specs.declared.line.Line.{Line}
use Rattle.encache.specs.Lines.{Lines, line_of, line_ok, full, Held, hit_line, ChangedBy, changed_line, cleared_line, lines_after}

in_range : (chains : List (List Item)) (o : ℕ) (x : Item) → x ∈ get_or chains o [] → o < length chains
in_range chains o x i = ⊎_elim (λ l. l) (λ l. absurd (elim (subst (λ zs. x ∈ zs) (get_or_past chains o [] l) i) [ ])) (cases_lt o (length chains))

line_is : (chains : List (List Item)) (k : ℕ) (l : Line) → line_ok chains k (Some l) ≡ true → (l.object % 8 ≡ k) × (l.item ∈ get_or chains l.object [])
line_is chains k l h = let p = and_parts _ _ h in (eqb-true (l.object % 8) k p.0, has_is l.item _ p.1)

line_from : (chains : List (List Item)) (k o : ℕ) (x : Item) → o % 8 ≡ k → x ∈ get_or chains o [] → line_ok chains k (full o x) ≡ true
line_from chains k o x e i = and_from _ _ (eq-eqb (o % 8) k e) (has_from x _ i)

-- a line after its own chain, or another, has changed

module _ (chains : List (List Item)) (o : ℕ) (ys : List Item) (k : ℕ) (l : Line) (ok : line_ok chains k (Some l) ≡ true) where
  other_object : (l.object ≡ o → ⊥) → line_ok (set chains o ys) k (Some l) ≡ true
  other_object ne =
      let p = line_is chains k l ok in
      line_from (set chains o ys) k l.object l.item p.0 (subst (λ zs. l.item ∈ zs) (sym (get_or-set_other chains o l.object ys [] ne)) p.1)

  same_object : (x : Item) → l.object ≡ o → (l.item ∈ get_or chains o [] → x ∈ ys) → line_ok (set chains o ys) k (full l.object x) ≡ true
  same_object x e f =
      let p = line_is chains k l ok in
      let was : l.item ∈ get_or chains o [] = subst (λ i. l.item ∈ get_or chains i []) e p.1 in
      line_from (set chains o ys) k l.object x p.0 (subst (λ i. x ∈ get_or (set chains o ys) i []) (sym e) (subst (λ zs. x ∈ zs) (sym (get_or-set_same chains o ys [] (in_range chains o l.item was))) (f was)))

put_ok : (chains : List (List Item)) (o : ℕ) (new : Item) (k : ℕ) (l : Option Line) → line_ok chains k l ≡ true → line_ok (set chains o (put_in (get_or chains o []) new)) k l ≡ true
put_ok chains o new k None h = refl
put_ok chains o new k (Some l) h =
    ⊎_elim (λ e. same_object chains o _ k l h l.item e (in_put_old (get_or chains o []) new l.item)) (λ ne. other_object chains o _ k l h ne) (cases_eq l.object o)

changed_ok : (chains : List (List Item)) (o : ℕ) (f : Item → Item) (k : ℕ) (l : Option Line) → line_ok chains k l ≡ true → line_ok (set chains o (map f (get_or chains o []))) k (changed_line o f l) ≡ true
changed_ok chains o f k None h = refl
changed_ok chains o f k (Some l) h =
    let ys = map f (get_or chains o []) in
    cond_both (eqb l.object o) (full o (f l.item)) (Some l) (λ n. line_ok (set chains o ys) k n ≡ true)
    (λ t. let e = eqb-true l.object o t in subst (λ i. line_ok (set chains o ys) k (full i (f l.item)) ≡ true) e (same_object chains o ys k l h (f l.item) e (in_map f (get_or chains o []) l.item)))
    (λ t. other_object chains o ys k l h (eqb-false l.object o t))

cleared_ok : (chains : List (List Item)) (o s : ℕ) (k : ℕ) (l : Option Line) → line_ok chains k l ≡ true → line_ok (set chains o (drop_in (get_or chains o []) s)) k (cleared_line o s l) ≡ true
cleared_ok chains o s k None h = refl
cleared_ok chains o s k (Some l) h =
    let ys = drop_in (get_or chains o []) s in
    cond_both (eqb l.object o && has_start s l.item) None (Some l) (λ n. line_ok (set chains o ys) k n ≡ true)
    (λ t. refl)
    (λ t. ⊎_elim
    (λ e. let stays : has_start s l.item ≡ false = ⊎_elim (λ n. absurd (both_ways (eqb l.object o) n (eq-eqb l.object o e))) (λ n. n) (and_cases _ _ t) in
    same_object chains o ys k l h l.item e (λ i. in_keep _ l.item (get_or chains o []) i (not_from_false _ stays)))
    (λ ne. other_object chains o ys k l h ne)
    (cases_eq l.object o))

-- a line of another place has another object
other_line : (chains : List (List Item)) (o : ℕ) (ys : List Item) (k : ℕ) (l : Option Line) → (k ≡ o % 8 → ⊥) → line_ok chains k l ≡ true → line_ok (set chains o ys) k l ≡ true
other_line chains o ys k None ne h = refl
other_line chains o ys k (Some l) ne h =
    other_object chains o ys k l h (λ e. ne (sym (line_is chains k l h).0 ∙ ap (λ n. n % 8) e))

-- one line changes with its object's chain
held_set : (after : List (List Item)) (lines : Lines) (o : ℕ) (l : Option Line) → o % 8 < length lines → ((k : ℕ) → (k ≡ o % 8 → ⊥) → line_ok after k (get_or lines k None) ≡ true) → line_ok after (o % 8) l ≡ true → Held after (set lines (o % 8) l)
held_set after lines o l long others this k =
    ⊎_elim
    (λ e. subst (λ i. line_ok after i (get_or (set lines (o % 8) l) i None) ≡ true) (sym e) (subst (λ m. line_ok after (o % 8) m ≡ true) (sym (get_or-set_same lines (o % 8) l None long)) this))
    (λ ne. subst (λ m. line_ok after k m ≡ true) (sym (get_or-set_other lines (o % 8) k l None ne)) (others k ne))
    (cases_eq k (o % 8))

module _ (chains : List (List Item)) (lines : Lines) (o : ℕ) (long : o % 8 < length lines) (held : Held chains lines) where
  changed_here : (ys : List Item) (u : Option Line → Option Line) → ((l : Option Line) → line_ok chains (o % 8) l ≡ true → line_ok (set chains o ys) (o % 8) (u l) ≡ true) → Held (set chains o ys) (set lines (o % 8) (u (line_of lines o)))
  changed_here ys u step =
      held_set (set chains o ys) lines o (u (line_of lines o)) long (λ k ne. other_line chains o ys k (get_or lines k None) ne (held k)) (step (line_of lines o) (held (o % 8)))

  held_after : (op : Op) → Held (set chains o (applied (get_or chains o []) op)) (lines_after lines o op)
  held_after (Find p) = subst (λ cs. Held cs lines) (sym (set-get_or chains o [])) held
  held_after At = subst (λ cs. Held cs lines) (sym (set-get_or chains o [])) held
  held_after (Extend s p) = changed_here _ (changed_line o (extends s p)) (changed_ok chains o (extends s p) (o % 8))
  held_after (Put p mark n) = λ k. put_ok chains o (fresh_item p mark n) k (get_or lines k None) (held k)
  held_after (Seal s) = changed_here _ (changed_line o (seals s)) (changed_ok chains o (seals s) (o % 8))
  held_after (Drop s) = changed_here _ (cleared_line o s) (cleared_ok chains o s (o % 8))

abbrev Answers : Meaning → ℕ → Op → Result (Unit {0}) Fault → Type 0
Answers m o op r = r ≡ answered m o op tt

module _ (m n : Meaning) (lines : Lines) (o : ℕ) (held : Held m.chains lines) where
  pub held_accepted : (op : Op) → o % 8 < length lines → Outcome m o op n → Answers m o op (Ok tt) → Held n.chains (lines_after lines o op)
  held_accepted op long out e =
      subst (λ cs. Held cs (lines_after lines o op)) (sym (out.chains ∙ accepted_chains m o op (ok_accepted m o op tt tt e))) (held_after m.chains lines o long held op)

  pub held_refused : (op : Op) (f : Fault) → Outcome m o op n → Answers m o op (Err f) → Held n.chains lines
  held_refused op f out e = subst (λ cs. Held cs lines) (sym (out.chains ∙ err_chains m o op tt f e)) held

  -- put changes no line
  pub held_put : (p mark num : ℕ) (r : Result (Unit {0}) Fault) → Outcome m o (Put p mark num) n → Answers m o (Put p mark num) r → Held n.chains lines
  held_put p mark num (Ok done) out e =
      subst (λ cs. Held cs lines) (sym (out.chains ∙ accepted_chains m o (Put p mark num) (ok_accepted m o (Put p mark num) tt done e))) (λ k. put_ok m.chains o (fresh_item p mark num) k (get_or lines k None) (held k))
  held_put p mark num (Err f) out e = held_refused (Put p mark num) f out e

-- an item found goes into its line
pub held_found : (m n : Meaning) (lines : Lines) (o p : ℕ) (x : Item) → o % 8 < length lines → Held m.chains lines → Outcome m o (Find p) n → find_in (chain_of m o) p ≡ Some x → Held n.chains (set lines (o % 8) (full o x))
held_found m n lines o p x long held out found =
    subst (λ cs. Held cs (set lines (o % 8) (full o x))) (sym (find_leaves m n o p out))
    (held_set m.chains lines o (full o x) long (λ k ne. held k) (line_from m.chains (o % 8) o x refl (found_in (chain_of m o) p x found)))

-- the line's answer is the store's
pub hit_found : (m : Meaning) (o p k : ℕ) (l : Option Line) (x : Item) → Sound m → line_ok m.chains k l ≡ true → Some x ≡ hit_line o p l → (cause_of m o (Find p) ≡ None) × (find_in (chain_of m o) p ≡ Some x)
hit_found m o p k None x sound ok e = absurd (none_some x (sym e))
hit_found m o p k (Some l) x sound ok e =
    ⊎_elim
    (λ t. let a = and_parts _ _ t in
    let b = and_parts _ _ a.1 in
    let x-is = some_same x l.item (e ∙ cond-true _ (Some l.item) None t) in
    let inside : l.item ∈ chain_of m o = subst (λ i. l.item ∈ get_or m.chains i []) (eqb-true l.object o a.0) (line_is m.chains k l ok).1 in
    let lt = in_range m.chains o l.item inside in
    let asc = lawful_ascends (chain_of m o) (sound.lawful o lt) in
    let span = ascends_spanned (chain_of m o) l.item asc inside in
    let from = leb-true l.item.start p b.0 in
    let to = leb-true p l.item.«end» b.1 in
    (find_accepted m o p lt (omega (arith, to, span.1)), found_covering (chain_of m o) p l.item asc inside from to ∙ ap Some (sym x-is)))
    (λ f. absurd (none_some x (sym (e ∙ cond-false _ (Some l.item) None f))))
    (cases_Bool (eqb l.object o && covers p l.item))

-- and stands in the line already
hit_is : (o p : ℕ) (l : Option Line) (x : Item) → Some x ≡ hit_line o p l → full o x ≡ l
hit_is o p None x e = absurd (none_some x (sym e))
hit_is o p (Some l) x e =
    ⊎_elim
    (λ t. let o_is = eqb-true l.object o (and_parts _ _ t).0 in
    let x-is = some_same x l.item (e ∙ cond-true _ (Some l.item) None t) in
    λ j. Some (record { object = sym o_is j; item = x-is j }))
    (λ f. absurd (none_some x (sym (e ∙ cond-false _ (Some l.item) None f))))
    (cases_Bool (eqb l.object o && covers p l.item))

pub hit_stays : (lines : Lines) (o p : ℕ) (x : Item) → Some x ≡ hit_line o p (line_of lines o) → lines ≡ set lines (o % 8) (full o x)
hit_stays lines o p x e = sym (ap (set lines (o % 8)) (hit_is o p (line_of lines o) x e) ∙ set-get_or lines (o % 8) None)

-- a line changed by a call that computes f
pub changed_by : (f : Item → Item) (o : ℕ) (l r : Option Line) {change : Item → Item → Type 0} → ChangedBy change o l r → ((x y : Item) → change x y → y ≡ f x) → r ≡ changed_line o f l
changed_by f o None r h is = h
changed_by f o (Some l) r {change} h is = by (eqb l.object o) h
  where
    by : (b : Bool) → MatchBool b ((x : Item) × change l.item x × (r ≡ full o x)) (r ≡ Some l) → r ≡ cond b (full o (f l.item)) (Some l)
    by true k = k.2 ∙ ap (full o) (is l.item k.0 k.1)
    by false k = k
