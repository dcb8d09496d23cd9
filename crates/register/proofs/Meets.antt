-- The search that settles tokens on its way.
use Rattle.std.proofs.Common.{◌≡◌, ℕ, zero, suc, ◌<◌, ◌≤◌, Bool, true, false, cond, ◌||◌, List, [], ◌∷◌, ◌++◌, length, get_or, Some, None, Ok, Err, Option, Result, sym, refl, ap, ◌∙◌, subst, append_assoc, le_refl, arith}
use Rattle.std.proofs.lemmas.Bool.{eq-eqb, or_parts, cond-false}
use Rattle.history.specs.declared.item.Item.{Item}
use Rattle.history.specs.Chain.{has_start, is_version, find_in, drop_in}
use Rattle.history.specs.Meaning.{Sound, Op, Outcome, cause_of, chain_of, FindAnswer}
use Rattle.history.specs.Meaning.Op.{Find, Drop}
use Rattle.history.proofs.Chains.{found_in}
use Rattle.history.proofs.Members.{some_from, length_drop}
use Rattle.history.proofs.Outcomes.{find_accepted, find_leaves}
use Rattle.ledger.specs.declared.record.Standing.{Standing}
use Rattle.ledger.specs.declared.record.Standing.TheVariants.{Open, Committed, Aborted}
use Rattle.ledger.specs.declared.record.CommitRecord.{CommitRecord}
use Rattle.ledger.specs.declared.call.Unread.{Unread}
use Rattle.ledger.specs.declared.call.Unread.TheVariants.{Wait}
use Rattle.register.specs.State.{State}
use Rattle.ledger.specs.Records.{fate, item_fate, lower_for}
use Rattle.ledger.specs.Checks.{Ticket}
use Rattle.register.specs.Calls.{Meeting, meeting, plainly, meet, meet_item, meet_fate, having_dropped, is_own}
use Rattle.register.specs.Calls.Met.{reads}
use Rattle.register.specs.Settling.{Held, Leaves, Settles}
use Rattle.register.specs.Meets.{Shows, Extends, Meets}
use Rattle.register.proofs.Leaves.{leaves_none, leaves_then, leaves_find, chain_left, inside_left}
use Rattle.register.proofs.Chains.{Finds, finds, token_held, Seen, seen, seen_sealed, extendable}

pub drop_shorter : (xs : List Item) (p : ℕ) (x : Item) → find_in xs p ≡ Some x → length (drop_in xs x.start) < length xs
drop_shorter xs p x e =
    let d = length_drop xs x.start (some_from (has_start x.start) x xs (found_in xs p x e) (eq-eqb x.start x.start refl)) in omega arith

module _ (clocks : List ℕ) (own : Option Ticket) (p : ℕ) where
  abbrev again : ℕ → List (Option CommitRecord) → List Item → Meeting
  again n later ys = meet n later clocks own ys p

  -- two searches that agree where an aborted token was dropped agree
  item_agree : (f g : List (Option CommitRecord) → List Item → Meeting) (records : List (Option CommitRecord)) (xs : List Item) (k : Option Item)
      → ((x : Item) → k ≡ Some x → f (lower_for records x) (drop_in xs x.start) ≡ g (lower_for records x) (drop_in xs x.start))
      → meet_item f records clocks own xs k ≡ meet_item g records clocks own xs k
  item_agree f g records xs None h = refl
  item_agree f g records xs (Some x) h = go (is_version x || is_own own x) (fate records clocks x) (h x refl)
    where
      go : (b : Bool) (w : Standing) → f (lower_for records x) (drop_in xs x.start) ≡ g (lower_for records x) (drop_in xs x.start)
          → ◌≡◌ {A = Meeting} (cond b (record { met = reads x; chain = xs; records = records; ops = [] }) (meet_fate f records xs x w))
          (cond b (record { met = reads x; chain = xs; records = records; ops = [] }) (meet_fate g records xs x w))
      go true w e = refl
      go false Open e = refl
      go false Committed e = refl
      go false Aborted e = ap (having_dropped x) e

  meet_fuel : (n m : ℕ) (records : List (Option CommitRecord)) (xs : List Item) → length xs ≤ n → length xs ≤ m → again n records xs ≡ again m records xs
  meet_fuel zero zero records xs h k = refl
  meet_fuel zero (suc m) records [] h k = refl
  meet_fuel zero (suc m) records (x ∷ xs) h k = absurd (omega arith)
  meet_fuel (suc n) zero records [] h k = refl
  meet_fuel (suc n) zero records (x ∷ xs) h k = absurd (omega arith)
  meet_fuel (suc n) (suc m) records xs h k =
      item_agree (again n) (again m) records xs (find_in xs p)
      (λ x e. let d = drop_shorter xs p x e in meet_fuel n m (lower_for records x) (drop_in xs x.start) (omega arith) (omega arith))

  -- a search's first step
  meet_first : (records : List (Option CommitRecord)) (xs : List Item) (x : Item) → find_in xs p ≡ Some x
      → again (length xs) records xs ≡ meet_item (λ later ys. again (length ys) later ys) records clocks own xs (Some x)
  meet_first records [] x e = let z : ◌≡◌ {A = ℕ} 0 1 = cc in absurd (omega arith)
  meet_first records (y ∷ ys) x e =
      item_agree (again (length ys)) (λ later zs. again (length zs) later zs) records (y ∷ ys) (find_in (y ∷ ys) p)
      (λ w q. let d : length (drop_in (y ∷ ys) w.start) < suc (length ys) = drop_shorter (y ∷ ys) p w q in
      meet_fuel (length ys) (length (drop_in (y ∷ ys) w.start)) (lower_for records w) (drop_in (y ∷ ys) w.start) (omega arith) (le_refl _))
      ∙ ap (λ k. meet_item (λ later zs. again (length zs) later zs) records clocks own (y ∷ ys) k) e

-- a search after operations that it has done
abbrev onward : List Op → Meeting → Meeting
onward ops w = record { met = w.met; chain = w.chain; records = w.records; ops = ops ++ w.ops }

onward_drop : (ops : List Op) (x : Item) (w : Meeting) → onward ops (having_dropped x w) ≡ onward (ops ++ (Drop x.start ∷ [])) w
onward_drop ops x w = ap (λ l. record { met = w.met; chain = w.chain; records = w.records; ops = l }) (sym (append_assoc ops (Drop x.start ∷ []) w.ops))

-- the search on its way, from a state s to a state t, at an item x
pub record Looking (s : State) (own : Option Ticket) (o p : ℕ) (x : Item) (t : State) : Type 0 where
  pub passes : cause_of t.store o (Find p) ≡ None
  pub found : find_in (chain_of t.store o) p ≡ Some x
  pub ops : List Op
  pub leaves : Leaves s o (chain_of t.store o) t.records ops t
  pub same : meeting s own o p ≡ onward ops (meeting t own o p)

pub looking_none : (s : State) (own : Option Ticket) (o p : ℕ) (x : Item) → cause_of s.store o (Find p) ≡ None
    → find_in (chain_of s.store o) p ≡ Some x → Looking s own o p x s
looking_none s own o p x e h = record { passes = e; found = h; ops = []; leaves = leaves_none s o; same = refl }

module _ (s : State) (own : Option Ticket) (o p : ℕ) (x : Item) (t : State) (l : Looking s own o p x t) where
  abbrev xs : List Item
  xs = chain_of t.store o

  abbrev next : List (Option CommitRecord) → List Item → Meeting
  next later ys = meet (length ys) later t.clocks own ys p

  abbrev plain : Bool
  plain = is_version x || is_own own x

  can : Finds t.store o p
  can = finds t.store o p l.passes

  met_plain : plain ≡ true → meeting t own o p ≡ plainly t o x
  met_plain e = meet_first t.clocks own p t.records xs x l.found ∙ ap (λ b. cond b (plainly t o x) (meet_fate next t.records xs x (fate t.records t.clocks x))) e

  met_token : plain ≡ false → (f : Standing) → f ≡ item_fate t.records t.clocks x → meeting t own o p ≡ meet_fate next t.records xs x f
  met_token e f h =
      meet_first t.clocks own p t.records xs x l.found
      ∙ (ap (λ b. cond b (plainly t o x) (meet_fate next t.records xs x (fate t.records t.clocks x))) e
      ∙ ap (λ w. meet_fate next t.records xs x w) (sym (h ∙ cond-false (is_version x) _ _ (or_parts _ _ e).0)))

  met_by : (m : Meeting) (r : Result Item Unread) (u : State) → meeting t own o p ≡ m → Shows r m.met → Leaves t o m.chain m.records m.ops u → Extends u.store o p r → Meets s own o p r u
  met_by m r u e a h x =
      let q : meeting s own o p ≡ onward l.ops m = l.same ∙ ap (onward l.ops) e in
      record {
        met = subst (λ (w : Meeting). Shows r w.met) (sym q) a;
        leaves = subst (λ (w : Meeting). Leaves s o w.chain w.records w.ops u) (sym q) (leaves_then l.leaves h);
        extends = x;
      }

  saw : Sound t.store → Seen xs p x
  saw sound = seen xs p x (sound.lawful o can.inside) l.found

  pub looked_held : Sound t.store → plain ≡ false → Held t.store o x
  looked_held sound e = token_held t.store o x sound can.inside (found_in xs p x l.found) (or_parts _ _ e).0

  pub looked_plain : Sound t.store → plain ≡ true → Meets s own o p (Ok x) t
  looked_plain sound e =
      met_by _ (Ok x) t (met_plain e) refl (leaves_none t o) (extendable t.store o p x can.inside can.small (saw sound))

  pub looked_open : (u : State) → plain ≡ false → Settles t o x Open u → Meets s own o p (Err (Wait x.mark)) u
  looked_open u e h = met_by _ (Err (Wait x.mark)) u (met_token e Open h.fate_is) refl h.leaves tt

  pub looked_committed : (u : State) → Sound t.store → plain ≡ false → Settles t o x Committed u → Meets s own o p (Ok x) u
  looked_committed u sound e h =
      met_by _ (Ok x) u (met_token e Committed h.fate_is) refl h.leaves
      (extendable u.store o p x (inside_left h.leaves can.inside) can.small
      (subst (λ c. Seen c p x) (sym (chain_left h.leaves can.inside)) (seen_sealed xs p x.start x (saw sound))))

  -- the state u after an aborted token was dropped, and v after the next find
  module _ (u : State) (h : Settles t o x Aborted u) where
    pub looked_finds : cause_of u.store o (Find p) ≡ None
    looked_finds = find_accepted u.store o p (inside_left h.leaves can.inside) can.small

    module _ (v : State) (found : Outcome u.store o (Find p) v.store) (rs : v.records ≡ u.records) (cl : v.clocks ≡ u.clocks) (ft : v.fit ≡ u.fit) where
      found_same : chain_of v.store o ≡ chain_of u.store o
      found_same = ap (λ w. get_or w o []) (find_leaves u.store v.store o p found)

      chain_now : chain_of v.store o ≡ drop_in xs x.start
      chain_now = found_same ∙ chain_left h.leaves can.inside

      pub looked_less : length (chain_of v.store o) < length xs
      looked_less = rw chain_now (drop_shorter xs p x l.found)

      pub looked_again : (y : Item) → plain ≡ false → FindAnswer u.store o p (Ok y) → Looking s own o p y v
      looked_again y e ans =
          let k : v.clocks ≡ t.clocks = cl ∙ h.leaves.clocks in
          let r : v.records ≡ lower_for t.records x = rs ∙ h.leaves.records in
          let here = leaves_find u v o p found cl ft in
          let w : next (lower_for t.records x) (drop_in xs x.start) ≡ meeting v own o p = sym (rw (chain_now, r, k)) in
          record {
            passes = find_accepted v.store o p (inside_left here (inside_left h.leaves can.inside)) can.small;
            found = ap (λ z. find_in z p) found_same ∙ ans.1;
            ops = l.ops ++ (Drop x.start ∷ []);
            leaves = leaves_then l.leaves (leaves_then h.leaves here);
            same = l.same ∙ (ap (onward l.ops) (met_token e Aborted h.fate_is ∙ ap (having_dropped x) w) ∙ onward_drop l.ops x (meeting v own o p));
          }
