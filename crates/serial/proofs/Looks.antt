-- Read and glance keep the invariant
use Rattle.std.proofs.Common.{◌≡◌, ℕ, zero, suc, pred, ◌+◌, ◌*◌, ◌/◌, ◌%◌, ◌<◌, ◌≤◌, Bool, true, false, cond, not, ◌||◌, eqb, ltb, leb, ◌⊎◌, List, [], ◌∷◌, length, get_or, set, Some, None, Option, sym, refl, ap, ◌∙◌, subst, inl, inr, arith, length-set, get_or-set_other, ltb-false, eq-eqb, eqb-true, leb-false}
use borrow.Author.Tests.{eqb-false}
use Rattle.std.proofs.lemmas.Bool.{cases_Bool, cases_eq, cases_lt, both_ways, and_parts, not-true, cond-true, cond_both, or_cases, or_parts as or_split, not_from_false}
use Rattle.history.specs.declared.item.Item.{Item}
use Rattle.ledger.specs.declared.record.Standing.TheVariants.{Committed, Aborted}
use Rattle.ledger.specs.declared.record.CommitRecord.{CommitRecord}
use Rattle.ledger.specs.declared.refusal.Refusal.{Refusal}
use Rattle.ledger.specs.declared.refusal.Refusal.TheVariants.{NotFit, OutOfRange, ClockSpent, NoForm}
use Rattle.ledger.specs.declared.call.Answer.{Answer}
use Rattle.ledger.specs.declared.call.Answer.TheVariants.{Value, Wait, Refused}
use Rattle.ledger.specs.declared.call.Call.TheVariants.{Read, Glance}
use Rattle.ledger.specs.Time.{stamp, is_spent, spent_at, pseudo, site_of}
use Rattle.register.specs.State.{State, contents}
use Rattle.ledger.specs.Records.{clock_at, take_stamp, fate, lower_for}
use Rattle.ledger.specs.Checks.{Ticket, site_check, spent_check, ticket_check, time_of}
use Rattle.register.specs.Calls.{Outcome, fit_check, Met, waits, reads, nothing, Meeting, meeting, is_own, meet, meet_item, meet_fate, having_dropped, answer_met, answer_read, look, look_by, read, glance}
use Rattle.ledger.specs.Refusals.{first}
use Rattle.history.specs.Members.{◌∈◌}
use Rattle.serial.specs.Histories.{Access, gave, took, deed}
use Rattle.serial.proofs.Invariant.{Setting, World, Lives, Timed, Inv}
use Rattle.serial.proofs.Good.{Seen, seen, GoodAt, After, unless, by_option, by_fate, first_none, when_none, set_here, ticketed}
use Rattle.history.specs.declared.item.Cause.TheVariants.{NoObject as NoObjectCause}
use Rattle.history.specs.Chain.{is_version, find_in, seal_in, drop_in, extend_in, has_start, seal_item, raise}
use Rattle.history.specs.Meaning.{Sound, chain_of, objects_of, cause_of, cause_in}
use Rattle.history.specs.Meaning.Op.{Find}
use Rattle.serial.specs.Histories.{select}
use Rattle.serial.proofs.Invariant.{Wrote}
use Rattle.history.proofs.Lists.{in_map, of_map}
use Rattle.history.proofs.Chains.{Sorted, keep_sorted, in_keep, of_keep, find_is}
use Rattle.serial.proofs.Moves.{change}
use Rattle.serial.proofs.Adds.{add_read}
use Rattle.serial.proofs.Tokens.{Spot, spot, Now, now_world, now_here, now_in, tidy, tidy_lives, Tidied}
use Rattle.serial.proofs.Updates.{either_none, time_is, own_given, own_timed, own_fall, stamp_up, stamp_top, stamp_agree}
use Rattle.serial.proofs.Settles.{now_first, chain_sorted}

module _ {V : Type 0} (σ : Setting V) where
  open σ use {form, parse, c, n, initial, last}

  module _ (τ : Spot V) where
    open τ use {clock, acc, done, chains, clocks, o, lo}

    seal_tidied : (xs : List Item) (rs : List (Option CommitRecord)) (x : Item) → fate rs clocks x ≡ Committed → Tidied σ τ xs (seal_in xs x.start) rs x
    seal_tidied xs rs x e = record {
      back = λ y' i. (let r = of_map (λ y. cond (has_start x.start y) (seal_item y) y) xs y' i in
          let y = r.0 in
          cond_both (has_start x.start y) (seal_item y) y
          (λ z. y' ≡ z → (w : Item) × (w ∈ xs) × (y'.start ≡ w.start) × (y'.number ≡ w.number) × (((y'.mark ≡ w.mark) × (w.start ≡ x.start → ⊥)) ⊎ ((y'.mark ≡ 0) × (w.start ≡ x.start) × (fate rs clocks x ≡ Committed))))
          (λ b q. (y, r.1, ap (λ (z : Item). z.start) q, ap (λ (z : Item). z.number) q, inr (ap (λ (z : Item). z.mark) q, eqb-true y.start x.start b, e)))
          (λ b q. (y, r.1, ap (λ (z : Item). z.start) q, ap (λ (z : Item). z.number) q, inl (ap (λ (z : Item). z.mark) q, eqb-false y.start x.start b)))
          r.2);
      fore = λ y i. inl (
          cond_both (has_start x.start y) (seal_item y) y
          (λ z. z ∈ seal_in xs x.start → (w : Item) × (w ∈ seal_in xs x.start) × (w.start ≡ y.start) × (w.number ≡ y.number) × (y.«end» ≤ w.«end»))
          (λ b j. (seal_item y, j, refl, refl, omega arith))
          (λ b j. (y, j, refl, refl, omega arith))
          (in_map (λ y. cond (has_start x.start y) (seal_item y) y) xs y i));
    }

    drop_tidied : (xs : List Item) (rs : List (Option CommitRecord)) (x : Item) → fate rs clocks x ≡ Aborted → Tidied σ τ xs (drop_in xs x.start) rs x
    drop_tidied xs rs x e = record {
      back = λ y i. (let r = of_keep (λ z. not (has_start x.start z)) y xs i in (y, r.0, refl, refl, inl (refl, eqb-false y.start x.start (not-true (has_start x.start y) r.1))));
      fore = λ y i. elim (cases_Bool (has_start x.start y)) [
        | inl b ↦ inr (eqb-true y.start x.start b, e)
        | inr b ↦ inl (y, in_keep (λ z. not (has_start x.start z)) y xs i (not_from_false (has_start x.start y) b), refl, refl, omega arith)
      ];
    }

    -- the reader: its action or glance, and its time
    module _ (own : Option Ticket) (cr p : ℕ) (own_is : (x : Item) → is_own own x ≡ true → x.start / 4294967296 ≡ cr) where
      -- the reader's own updates still stand
      abbrev Mine : List Item → List (Option CommitRecord) → Type 0
      Mine xs rs = (d : Access V) → d ∈ acc → d.creation ≡ cr → Lives (now_world σ τ xs rs) d.creation

      pub record FoundAt (xs : List Item) (x : Item) : Type 0 where
        pub item : Item
        pub inside : item ∈ xs
        pub starts : item.start ≡ x.start
        pub has : item.number ≡ x.number
        pub below : x.start ≤ p
        pub greatest : (y : Item) → y ∈ xs → y.start ≤ p → y.start ≤ x.start
        pub visible : (item.mark ≡ 0) ⊎ (item.start / 4294967296 ≡ cr)

      sealed_found : (xs : List Item) (x : Item) → Sorted xs → x ∈ xs → x.start ≤ p → ((y : Item) → y ∈ xs → y.start ≤ p → y.start ≤ x.start) → FoundAt (seal_in xs x.start) x
      sealed_found xs x s i le most = record {
        item = seal_item x;
        inside = subst (λ z. z ∈ seal_in xs x.start) (cond-true (has_start x.start x) (seal_item x) x (eq-eqb x.start x.start refl)) (in_map (λ y. cond (has_start x.start y) (seal_item y) y) xs x i);
        starts = refl;
        has = refl;
        below = le;
        greatest = λ y' j le'. (let r = of_map (λ y. cond (has_start x.start y) (seal_item y) y) xs y' j in
            let q : y'.start ≡ r.0.start = cond_both (has_start x.start r.0) (seal_item r.0) r.0 (λ (z : Item). y' ≡ z → y'.start ≡ r.0.start) (λ _ w. ap (λ (u : Item). u.start) w) (λ _ w. ap (λ (u : Item). u.start) w) r.2 in
            let k = most r.0 r.1 (omega arith) in omega arith);
        visible = inl refl;
      }

      abbrev pub Meets : Met → List Item → Type 0
      Meets (waits r) xs = Unit {0}
      Meets (reads x) xs = FoundAt xs x
      Meets nothing xs = Unit {0}

      pub record MetGood (m : Meeting) : Type 0 where
        pub now : Now σ τ m.chain m.records
        pub mine : Mine m.chain m.records
        pub meets : Meets m.met m.chain

      -- what the search drops first does not matter to what it meets
      dropped_good : (x : Item) (m : Meeting) → MetGood m → MetGood (having_dropped x m)
      dropped_good x m g = record { now = g.now; mine = g.mine; meets = g.meets }

      pub meet_good : (fuel : ℕ) (rs : List (Option CommitRecord)) (xs : List Item) → Sorted xs → Now σ τ xs rs → Mine xs rs → MetGood (meet fuel rs clocks own xs p)
      meet_good zero rs xs s good mine = record { now = good; mine = mine; meets = tt }
      meet_good (suc fuel) rs xs s good mine = by_option (find_in xs p) (meet_item (λ later ys. meet fuel later clocks own ys p) rs clocks own xs) MetGood
          (λ _. record { now = good; mine = mine; meets = tt })
          (λ x e.
          let f = find_is xs p x s e in
          cond_both (is_version x || is_own own x) _ _ MetGood
          (λ b. record {
            now = good;
            mine = mine;
            meets = record {
              item = x;
              inside = f.0;
              starts = refl;
              has = refl;
              below = f.1;
              greatest = f.2;
              visible = elim (or_cases (is_version x) (is_own own x) b) [ inl v ↦ inl (eqb-true x.mark 0 v) | inr v ↦ inr (own_is x v) ];
            };
          })
          (λ b.
          let nv = (or_split (is_version x) (is_own own x) b).0 in
          by_fate (fate rs clocks x) (meet_fate (λ later ys. meet fuel later clocks own ys p) rs xs x) MetGood
          (λ _. record { now = good; mine = mine; meets = tt })
          (λ k.
          let td = seal_tidied xs rs x k in
          record {
            now = tidy σ τ xs (seal_in xs x.start) rs x good f.0 nv td;
            mine = λ d i q. tidy_lives σ τ xs (seal_in xs x.start) rs x good f.0 nv td d.creation (mine d i q);
            meets = sealed_found xs x s f.0 f.1 f.2;
          })
          (λ k.
          let td = drop_tidied xs rs x k in
          dropped_good x _ (meet_good fuel (lower_for rs x) (drop_in xs x.start) (keep_sorted (λ z. not (has_start x.start z)) xs s)
          (tidy σ τ xs (drop_in xs x.start) rs x good f.0 nv td)
          (λ d i q. tidy_lives σ τ xs (drop_in xs x.start) rs x good f.0 nv td d.creation (mine d i q))))))

    -- a span grows
    abbrev longer : ℕ → ℕ → Item → Item
    longer st p y = cond (has_start st y) (raise p y) y

    longer_is : (st p : ℕ) (y : Item) → ((longer st p y).start ≡ y.start) × ((longer st p y).number ≡ y.number) × ((longer st p y).mark ≡ y.mark) × (y.«end» ≤ (longer st p y).«end»)
    longer_is st p y = cond_both (has_start st y) (raise p y) y (λ (z : Item). (z.start ≡ y.start) × (z.number ≡ y.number) × (z.mark ≡ y.mark) × (y.«end» ≤ z.«end»))
        (λ _. (refl, refl, refl, omega arith)) (λ _. (refl, refl, refl, omega arith))

    extended : (xs : List Item) (rs : List (Option CommitRecord)) (st p : ℕ) → Now σ τ xs rs → Now σ τ (extend_in xs st p) rs
    extended xs rs st p good = record {
      size_chains = length-set chains o (extend_in xs st p) ∙ sym (length-set chains o xs) ∙ good.size_chains;
      size_records = good.size_records;
      size_clocks = good.size_clocks;
      agree = good.agree;
      inv = change σ (now_world σ τ xs rs) (λ k. get_or (set chains o (extend_in xs st p)) k []) (λ i. get_or rs i None) (λ j. get_or clocks j 0) good.inv (record {
        kin = record {
          fore = λ j u e. (u, e, record { creation = refl; expiry = refl; standing = refl });
          back = λ j u e. (u, e, record { creation = refl; expiry = refl; standing = refl });
          up = λ k h. omega arith;
          top = good.inv.clocks_to;
          more = λ b i. i;
          same = λ cr. refl;
        };
        back = λ k y' i. (let r = was k y' i in (r.0, r.1, r.2, r.3, inl r.4));
        fore = λ k y i. elim (cases_eq k o) [
          | inl e ↦ (let q = longer_is st p y in inl (
            longer st p y,
            subst (λ l. longer st p y ∈ l) (sym (now_here σ τ (extend_in xs st p) k e))
                (in_map (longer st p) xs y (subst (λ l. y ∈ l) (now_here σ τ xs k e) i)),
            q.0,
            q.1,
            q.3,
          ))
          | inr ne ↦ inl (y, subst (λ l. y ∈ l) (sym (off k ne)) i, refl, refl, omega arith)
        ];
        tally = λ i u e. let t = good.inv.tally i u e in record {
          places = t.places;
          few = t.few;
          all = λ k y' iy m. (let r = was k y' iy in subst (λ z. (k, z) ∈ t.places) (sym r.2) (t.all k r.0 r.1 (sym r.4 ∙ m)));
        };
      });
    }
      where
        off : (k : ℕ) → (k ≡ o → ⊥) → get_or (set chains o (extend_in xs st p)) k [] ≡ get_or (set chains o xs) k []
        off k ne = get_or-set_other chains o k (extend_in xs st p) [] ne ∙ sym (get_or-set_other chains o k xs [] ne)

        was : (k : ℕ) (y' : Item) → y' ∈ get_or (set chains o (extend_in xs st p)) k [] → (y : Item) × (y ∈ get_or (set chains o xs) k []) × (y'.start ≡ y.start) × (y'.number ≡ y.number) × (y'.mark ≡ y.mark)
        was k y' i = elim (cases_eq k o) [
          | inl e ↦ (let r = of_map (longer st p) xs y' (subst (λ l. y' ∈ l) (now_here σ τ (extend_in xs st p) k e) i) in
              let q = longer_is st p r.0 in
              (r.0, subst (λ l. r.0 ∈ l) (sym (now_here σ τ xs k e)) r.1, ap (λ (z : Item). z.start) r.2 ∙ q.0, ap (λ (z : Item). z.number) r.2 ∙ q.1, ap (λ (z : Item). z.mark) r.2 ∙ q.2))
          | inr ne ↦ (y', subst (λ l. y' ∈ l) (off k ne) i, refl, refl, refl)
        ]

    module _ (reads-back : (v : V) → parse (form v) ≡ Some v) (own : Option Ticket) (cr p : ℕ) (own_is : (x : Item) → is_own own x ≡ true → x.start / 4294967296 ≡ cr)
        (xs : List Item) (rs : List (Option CommitRecord)) (good : Now σ τ xs rs)
        (mine : (d : Access V) → d ∈ acc → d.creation ≡ cr → Lives (now_world σ τ xs rs) d.creation)
        (x : Item) (found : FoundAt own cr p own_is xs x) (v : V) (parses : parse x.number ≡ Some v)
        (tm : ℕ) (g : Bool) (tm-is : tm ≡ p) (from : c * 16 ≤ cr) (names : p / 4294967296 ≡ cr)
        (fall : (d : Access V) → d ∈ acc → d.creation ≡ cr → d.time < p) where
      abbrev it : Access V
      it = record { object = o; creation = cr; time = tm; glance = g; effect = gave v }

      ext : List Item
      ext = extend_in xs x.start p

      abbrev wide : World V
      wide = now_world σ τ (extend_in xs x.start p) rs

      ext_good : Now σ τ (extend_in xs x.start p) rs
      ext_good = extended xs rs x.start p good

      greatest : (y : Item) → y ∈ wide.chain o → y.start ≤ p → y.start ≤ x.start
      greatest y i le =
          let r = of_map (longer x.start p) xs y (subst (λ l. y ∈ l) (now_here σ τ (extend_in xs x.start p) o refl) i) in
          let q : y.start ≡ r.0.start = ap (λ (z : Item). z.start) r.2 ∙ (longer_is x.start p r.0).0 in
          let k = found.greatest r.0 r.1 (omega arith) in
          omega arith

      top_item : Item
      top_item = raise p found.item

      top_in : raise p found.item ∈ wide.chain o
      top_in = now_in σ τ (extend_in xs x.start p) rs (raise p found.item)
          (subst (λ z. z ∈ extend_in xs x.start p) (cond-true (has_start x.start found.item) (raise p found.item) found.item (eq-eqb found.item.start x.start found.starts)) (in_map (longer x.start p) xs found.item found.inside))

      parse_some : (a b : V) → ◌≡◌ {A = Option V} (Some a) (Some b) → a ≡ b
      parse_some a b e = cc

      whence : ((parse (initial o) ≡ Some v) × (x.start < c * 68719476736)) ⊎ Wrote σ wide it v x.start
      whence = elim (ext_good.inv.items o (raise p found.item) top_in) [
        | inl st ↦
            (let early = ext_good.inv.last_early o st.known in
            let hd = ext_good.inv.kept_first o st.known in
            let q = found.starts in
            let up = greatest hd.item hd.inside (omega (arith, hd.starts)) in
            let eq : found.item.start ≡ last o = omega (arith, hd.starts, st.by) in
            inl (ap parse (sym (st.found eq) ∙ found.has) ∙ parses, omega arith))
        | inr u ↦
            (let nm = (ext_good.inv.timed u.update u.made).names in
            let q : u.update.time ≡ x.start = u.time ∙ found.starts in
            let same : u.value ≡ v = parse_some u.value v (sym (reads-back u.value) ∙ ap parse (sym u.number ∙ found.has) ∙ parses) in
            inr (record {
              update = u.update;
              made = u.made;
              updates = u.updates ∙ ap took same;
              object = u.object;
              time = q;
              below = elim (cases_eq u.update.creation cr) [
                | inl e ↦ (let lt = fall u.update u.made e in omega arith)
                | inr ne ↦ (let le = found.below in omega arith)
              ];
              visible = elim u.standing [
                | inl d ↦ inr d.1
                | inr ow ↦ elim found.visible [ inl z ↦ absurd (omega (arith, ow.marked)) | inr z ↦ inl (let q2 = found.starts in omega arith) ]
              ];
            }))
      ]

      apart : (d : Access V) (u : V) → d ∈ acc → d.effect ≡ took u → d.object ≡ o → (Lives wide d.creation) ⊎ (d.creation ≡ cr) → (d.time ≤ x.start) ⊎ (tm < d.time)
      apart d u i e eo l =
          let lives : Lives wide d.creation = elim l [ inl k ↦ k | inr k ↦ mine d i k ] in
          let hd = ext_good.inv.kept d u i e lives in
          elim (cases_lt p d.time) [
            | inl lt ↦ inr (omega arith)
            | inr le ↦ inl (let k = greatest hd.item (subst (λ y. hd.item ∈ wide.chain y) eo hd.inside) (omega (arith, hd.starts)) in omega (arith, hd.starts))
          ]

      pub read_inv : (clk' : ℕ → ℕ) → ((site : ℕ) → site < 16 → get_or clocks site 0 ≤ clk' site) → ((site : ℕ) → site < 16 → clk' site ≤ 134217728) → Timed c clk' it
          → Inv σ (record { acc = it ∷ acc; done = done; chain = wide.chain; rec = wide.rec; clk = clk' })
      read_inv clk' up top timed = add_read σ wide ext_good.inv it v refl clk' up top timed (λ d i e. let lt = fall d i e in omega arith) (record {
        at = x.start;
        whence = whence;
        cover = record { item = raise p found.item; inside = top_in; starts = found.starts; reaches = omega arith };
        apart = apart;
      })

  module _ (reads-back : (v : V) → parse (form v) ≡ Some v) (clock : ℕ → ℕ) (acc : List (Access V)) (done : ℕ → Bool) (s : State) (sound : Sound s.store) (good : GoodAt σ clock acc done (seen (contents s))) where
    module _ (o : ℕ) (lo : o < length s.store.chains) (own : Option Ticket) (cr p site : ℕ) (own_is : (x : Item) → is_own own x ≡ true → x.start / 4294967296 ≡ cr) (P : Answer V → Seen → Type 0)
        (refuses : (why : Refusal) → P (Refused why) (seen (contents s)))
        (waiting : (r : ℕ) (xs : List Item) (rs : List (Option CommitRecord)) → Now σ (spot clock acc done s o lo) xs rs
        → P (Wait r) (record { chains = set s.store.chains o xs; records = rs; clocks = s.clocks }))
        (formless : (k : ℕ) (xs : List Item) (rs : List (Option CommitRecord)) → Now σ (spot clock acc done s o lo) xs rs
        → P (Refused (NoForm k)) (record { chains = set s.store.chains o xs; records = rs; clocks = s.clocks }))
        (valued : (xs : List Item) (rs : List (Option CommitRecord)) → Now σ (spot clock acc done s o lo) xs rs
        → ((d : Access V) → d ∈ acc → d.creation ≡ cr → Lives (now_world σ (spot clock acc done s o lo) xs rs) d.creation)
        → (x : Item) → FoundAt (spot clock acc done s o lo) own cr p own_is xs x → (v : V) → parse x.number ≡ Some v
        → P (Value v) (record { chains = set s.store.chains o (extend_in xs x.start p); records = rs; clocks = take_stamp s.clocks site }))
        (mine : (d : Access V) → d ∈ acc → d.creation ≡ cr → Lives (now_world σ (spot clock acc done s o lo) (chain_of s.store o) s.records) d.creation) where
      abbrev Ended : Outcome V → Type 0
      Ended out = P out.answer (seen out.after)

      answer_by : (w : Meeting) (k : Met) → w.met ≡ k → MetGood (spot clock acc done s o lo) own cr p own_is w → Ended (answer_met parse s o p site w k)
      answer_by w (waits r) e m = waiting r w.chain w.records m.now
      answer_by w (reads x) e m =
          by_option (parse x.number) (answer_read parse s o p site w x) Ended (λ _. formless x.number w.chain w.records m.now) (λ v q. valued w.chain w.records m.now m.mine x (subst (λ k. Meets (spot clock acc done s o lo) own cr p own_is k w.chain) e m.meets) v q)
      answer_by w nothing e m = refuses NotFit

      pub answered_by : Ended (answer_met parse s o p site (meeting s own o p) (meeting s own o p).met)
      answered_by =
          answer_by (meeting s own o p) (meeting s own o p).met refl
          (meet_good (spot clock acc done s o lo) own cr p own_is (length (chain_of s.store o)) s.records (chain_of s.store o)
          (chain_sorted σ clock acc done s sound good o lo) (now_first σ clock acc done s sound good o lo) mine)

    own_ticket : (t : Ticket) (x : Item) → is_own (Some t) x ≡ true → x.start / 4294967296 ≡ t.1
    own_ticket t x e = eqb-true (x.start / 4294967296) t.1 (and_parts (eqb x.mark t.0) (eqb (x.start / 4294967296) t.1) e).1

    own_none : (cr : ℕ) (x : Item) → is_own None x ≡ true → x.start / 4294967296 ≡ cr
    own_none cr x e = absurd (both_ways true (sym e) refl)

    known_object : (o p : ℕ) → cause_of s.store o (Find p) ≡ None → o < length s.store.chains
    known_object o p e = leb-false (objects_of s.store) o (either_none (leb (objects_of s.store) o) NoObjectCause (cause_in (chain_of s.store o) (s.store.room o) (Find p)) e).0

    pub read_good : (t : Ticket) (o : ℕ) → After σ clock acc done (deed (Read t o) (read parse s t o).answer) (seen (read parse s t o).after)
    read_good t o = unless _ s _ (λ out. After σ clock acc done (deed (Read t o) out.answer) (seen out.after))
        (λ why. good)
        (λ e.
        let a = first_none (ticket_check s.records s.clocks t) (spent_check s.clocks (site_of t.1)) (first_none (fit_check s) _ e).1 in
        let tk = ticketed s t a.0 in
        let unspent : clock_at s.clocks (t.1 % 16) < 134217728 = leb-false spent_at (clock_at s.clocks (t.1 % 16)) (when_none (is_spent (clock_at s.clocks (t.1 % 16))) ClockSpent a.1) in
        let szc = good.size_clocks in
        let lt : t.1 % 16 < length s.clocks = omega arith in
        by_option (cause_of s.store o (Find (time_of s.clocks t.1))) (look_by parse s (Some t) o (time_of s.clocks t.1) (site_of t.1)) (λ out. After σ clock acc done (deed (Read t o) out.answer) (seen out.after))
        (λ k.
        let lo = known_object o (time_of s.clocks t.1) k in
        answered_by o lo (Some t) t.1 (time_of s.clocks t.1) (t.1 % 16) (own_ticket t) (λ a k. After σ clock acc done (deed (Read t o) a) k)
        (λ why. good) (λ r xs rs g. g) (λ r xs rs g. g)
        (λ xs rs g mine x f v pv. record {
          size_chains = length-set s.store.chains o (extend_in xs x.start (time_of s.clocks t.1)) ∙ good.size_chains;
          size_records = g.size_records;
          size_clocks = length-set s.clocks (t.1 % 16) _ ∙ good.size_clocks;
          agree = stamp_agree σ clock acc done s good (t.1 % 16) lt;
          inv = read_inv (spot clock acc done s o lo) reads-back (Some t) t.1 (time_of s.clocks t.1) (own_ticket t) xs rs g mine x f v pv
              (select t.1 (clock (t.1 % 16))) false (time_is σ clock acc done s good t) (own_given σ clock acc done s good t tk).0
              (omega arith) (own_fall σ clock acc done s good t)
              (λ j. get_or (take_stamp s.clocks (t.1 % 16)) j 0) (stamp_up σ clock acc done s good (t.1 % 16) lt) (stamp_top σ clock acc done s good (t.1 % 16) lt unspent)
              (own_timed σ clock acc done s good t tk unspent _ refl (time_is σ clock acc done s good t));
        })
        (λ d i q. inr (pred t.0, tk.its, tk.used, tk.same ∙ sym q, tk.opens)))
        (λ x _. good))

    -- a glance's creation is new
    glance_fresh : (site : ℕ) → site ≤ 15 → (d : Access V) → d ∈ acc → d.creation ≡ stamp (clock site) site → ⊥
    glance_fresh site ls d i e =
        let td = good.inv.timed d i in
        let ag = good.agree site (omega arith) in
        let at : d.creation % 16 ≡ site = omega arith in
        let q : get_or s.clocks (d.creation % 16) 0 ≡ get_or s.clocks site 0 = ap (λ (y : ℕ). get_or s.clocks y 0) at in
        omega (arith, td.old)

    glance_timed : (site : ℕ) → site ≤ 15 → clock_at s.clocks site < 134217728 → (b : Access V) → b.creation ≡ stamp (clock site) site → b.time ≡ pseudo (stamp (clock site) site) 0
        → Timed c (λ j. get_or (take_stamp s.clocks site) j 0) b
    glance_timed site ls unspent b ec et =
        let szc = good.size_clocks in
        let lt : site < length s.clocks = omega arith in
        let ag = good.agree site (omega arith) in
        let fr = good.inv.clocks_from site (omega arith) in
        let at : b.creation % 16 ≡ site = omega arith in
        let now : get_or (take_stamp s.clocks site) (b.creation % 16) 0 ≡ clock_at s.clocks site + 1 = set_here s.clocks site (b.creation % 16) (clock_at s.clocks site + 1) 0 lt at in
        record { from = omega arith; old = omega (arith, now); names = omega arith; before = omega (arith, now) }

    glance_look : (site o : ℕ) → site ≤ 15 → clock_at s.clocks site < 134217728
        → After σ clock acc done (deed (Glance site o) (look parse s None o (pseudo (stamp (clock_at s.clocks site) site) 0) site).answer) (seen (look parse s None o (pseudo (stamp (clock_at s.clocks site) site) 0) site).after)
    glance_look site o ls unspent =
        let p : ℕ = pseudo (stamp (clock_at s.clocks site) site) 0 in
        let cr : ℕ = stamp (clock site) site in
        let szc = good.size_clocks in
        let lt : site < length s.clocks = omega arith in
        let ag : clock_at s.clocks site ≡ clock site = good.agree site (omega arith) in
        let fr : c ≤ clock_at s.clocks site = good.inv.clocks_from site (omega arith) in
        let tm-is : pseudo (stamp (clock site) site) 0 ≡ pseudo (stamp (clock_at s.clocks site) site) 0 = ap (λ (y : ℕ). pseudo (stamp y site) 0) (sym ag) in
        by_option (cause_of s.store o (Find p)) (look_by parse s None o p site) (λ out. After σ clock acc done (deed (Glance site o) out.answer) (seen out.after))
        (λ k.
        let lo = known_object o p k in
        answered_by o lo None cr p site (own_none cr) (λ a k. After σ clock acc done (deed (Glance site o) a) k)
        (λ why. good) (λ r xs rs g. g) (λ r xs rs g. g)
        (λ xs rs g mine x f v pv. record {
          size_chains = length-set s.store.chains o (extend_in xs x.start p) ∙ good.size_chains;
          size_records = g.size_records;
          size_clocks = length-set s.clocks site _ ∙ good.size_clocks;
          agree = stamp_agree σ clock acc done s good site lt;
          inv = read_inv (spot clock acc done s o lo) reads-back None cr p (own_none cr) xs rs g mine x f v pv
              (pseudo (stamp (clock site) site) 0) true tm-is (omega arith)
              (omega arith) (λ d i q. absurd (glance_fresh site ls d i q))
              (λ j. get_or (take_stamp s.clocks site) j 0) (stamp_up σ clock acc done s good site lt) (stamp_top σ clock acc done s good site lt unspent)
              (glance_timed site ls unspent _ refl refl);
        })
        (λ d i q. absurd (glance_fresh site ls d i q)))
        (λ x _. good)

    pub glance_good : (site o : ℕ) → After σ clock acc done (deed (Glance site o) (glance parse s site o).answer) (seen (glance parse s site o).after)
    glance_good site o = unless _ s _ (λ out. After σ clock acc done (deed (Glance site o) out.answer) (seen out.after))
        (λ why. good)
        (λ e.
        let a = first_none (fit_check s) (first (site_check site) (spent_check s.clocks site)) e in
        let b = first_none (site_check site) (spent_check s.clocks site) a.1 in
        let ls : site ≤ 15 = ltb-false 15 site (when_none (ltb 15 site) OutOfRange b.0) in
        let unspent : clock_at s.clocks site < 134217728 = leb-false spent_at (clock_at s.clocks site) (when_none (is_spent (clock_at s.clocks site)) ClockSpent b.1) in
        glance_look site o ls unspent)
