-- A token whose action has ended is sealed or dropped.
use Rattle.std.proofs.Common.{◌≡◌, ℕ, suc, pred, ◌/◌, ◌%◌, ◌<◌, ◌≤◌, Bool, true, false, cond, ◌&&◌, eqb, leb, ◌⊎◌, List, [], ◌∷◌, length, get_or, set, sym, refl, ap, ◌∙◌, subst, inl, inr, arith, length-set, get_or-set_other, eq-eqb, eqb-true, leb-true, Some, None, Option}
use borrow.Author.Tests.{eqb-false}
use Rattle.std.proofs.lemmas.Bool.{cases_Bool, cases_eq, cases_lt, both_ways, and_parts, and_from, cond-true, cond-false, cond_both}
use Rattle.history.specs.declared.item.Item.{Item}
use Rattle.ledger.specs.declared.record.Standing.{Standing}
use Rattle.ledger.specs.declared.record.Standing.TheVariants.{Open, Committed, Aborted}
use Rattle.ledger.specs.declared.record.Event.TheVariants.{Expiry}
use Rattle.ledger.specs.declared.record.CommitRecord.{CommitRecord}
use Rattle.serial.proofs.Invariant.{Setting, World, OpenAt, Lives, is_committed, Tally}
use Rattle.serial.proofs.Moves.{Kept, change, token_late}
use lib.ListN.{get_or-eq_default}
use Rattle.history.specs.Chain.{is_version}
use Rattle.register.specs.State.{State}
use Rattle.ledger.specs.Records.{next, clock_at, record_at, standing_of, fate, fate_under, lower, lower_under, lower_for}
use Rattle.history.specs.Members.{◌∈◌, here, there}
use Rattle.serial.specs.Histories.{Access}
use Rattle.history.proofs.Lists.{split_in}
use Rattle.serial.proofs.Ends.{same_use}
use Rattle.serial.proofs.Good.{cond_same, world_of, GoodAt, set_here}

-- places without one

removed : ℕ → ℕ → List (ℕ × ℕ) → List (ℕ × ℕ)
removed o st [] = []
removed o st (p ∷ ps) = cond (eqb p.0 o && eqb p.1 st) (removed o st ps) (p ∷ removed o st ps)

removed_few : (o st : ℕ) (l : List (ℕ × ℕ)) → length (removed o st l) ≤ length l
unfolding removed
removed_few o st [] = omega arith
removed_few o st (p ∷ ps) = let ih = removed_few o st ps in cond_both (eqb p.0 o && eqb p.1 st) (removed o st ps) (p ∷ removed o st ps) (λ (l : List (ℕ × ℕ)). length l ≤ suc (length ps)) (λ _. omega arith) (λ _. omega arith)

removed_less : (o st : ℕ) (l : List (ℕ × ℕ)) → (o, st) ∈ l → length (removed o st l) < length l
unfolding removed
removed_less o st [] i = elim i [ ]
removed_less o st (p ∷ ps) i = elim (split_in i) [
  | inl e ↦ (let few = removed_few o st ps in
      let test : (eqb p.0 o && eqb p.1 st) ≡ true = and_from (eqb p.0 o) (eqb p.1 st) (eq-eqb p.0 o (ap (λ (y : ℕ × ℕ). y.0) (sym e))) (eq-eqb p.1 st (ap (λ (y : ℕ × ℕ). y.1) (sym e))) in
      subst (λ (l : List (ℕ × ℕ)). length l < suc (length ps)) (sym (cond-true (eqb p.0 o && eqb p.1 st) (removed o st ps) (p ∷ removed o st ps) test)) (omega arith))
  | inr j ↦ (let ih = removed_less o st ps j in
      cond_both (eqb p.0 o && eqb p.1 st) (removed o st ps) (p ∷ removed o st ps) (λ (l : List (ℕ × ℕ)). length l < suc (length ps)) (λ _. omega arith) (λ _. omega arith))
]

in_removed : (o st : ℕ) (q : ℕ × ℕ) (l : List (ℕ × ℕ)) → q ∈ l → ((q.0 ≡ o) → (q.1 ≡ st) → ⊥) → q ∈ removed o st l
unfolding removed
in_removed o st q [] i ne = elim i [ ]
in_removed o st q (p ∷ ps) i ne = elim (split_in i) [
  | inl e ↦ cond_both (eqb p.0 o && eqb p.1 st) (removed o st ps) (p ∷ removed o st ps) (λ (l : List (ℕ × ℕ)). q ∈ l)
      (λ t. let r = and_parts (eqb p.0 o) (eqb p.1 st) t in absurd (ne (ap (λ (y : ℕ × ℕ). y.0) e ∙ eqb-true p.0 o r.0) (ap (λ (y : ℕ × ℕ). y.1) e ∙ eqb-true p.1 st r.1)))
      (λ t. subst (λ (y : ℕ × ℕ). y ∈ (p ∷ removed o st ps)) (sym e) here)
  | inr j ↦ (let ih = in_removed o st q ps j ne in
      cond_both (eqb p.0 o && eqb p.1 st) (removed o st ps) (p ∷ removed o st ps) (λ (l : List (ℕ × ℕ)). q ∈ l) (λ _. ih) (λ _. there ih))
]

-- standings

standing_committed : (clocks : List ℕ) (u : CommitRecord) → standing_of clocks u ≡ Committed → u.standing ≡ Committed
standing_committed clocks u e = go u.standing refl e
  where
    go : (w : Standing) → u.standing ≡ w
        → cond (leb u.expiry (clock_at clocks (u.creation % 16))) (next w Expiry) w ≡ Committed
        → u.standing ≡ Committed
    go Open p q = absurd (cond_both (leb u.expiry (clock_at clocks (u.creation % 16))) Aborted Open (λ y. y ≡ Committed → ⊥)
        (λ _ z. let r : ◌≡◌ {A = ℕ} 0 1 = cc in omega arith) (λ _ z. let r : ◌≡◌ {A = ℕ} 0 1 = cc in omega arith) q)
    go Committed p q = p
    go Aborted p q = absurd (let f : Aborted ≡ Committed = sym (cond_same _ Aborted) ∙ q in let r : ◌≡◌ {A = ℕ} 0 1 = cc in omega arith)

-- an aborted one is neither committed nor open
standing_aborted : (clocks : List ℕ) (u : CommitRecord) → standing_of clocks u ≡ Aborted → (is_committed u.standing ≡ false) × (OpenAt (λ j. get_or clocks j 0) u → ⊥)
standing_aborted clocks u e = go u.standing refl e
  where
    go : (w : Standing) → u.standing ≡ w
        → cond (leb u.expiry (clock_at clocks (u.creation % 16))) (next w Expiry) w ≡ Aborted
        → (is_committed u.standing ≡ false) × (OpenAt (λ j. get_or clocks j 0) u → ⊥)
    go Open p q = (
      ap is_committed p,
      λ op. elim (cases_Bool (leb u.expiry (clock_at clocks (u.creation % 16)))) [
        | inl b ↦ (let le = leb-true u.expiry (clock_at clocks (u.creation % 16)) b in omega (arith, op.1))
        | inr b ↦ (let f : Open ≡ Aborted = sym (cond-false (leb u.expiry (clock_at clocks (u.creation % 16))) Aborted Open b) ∙ q in let r : ◌≡◌ {A = ℕ} 0 1 = cc in omega arith)
      ],
    )
    go Committed p q = absurd (let f : Committed ≡ Aborted = sym (cond_same _ Committed) ∙ q in let r : ◌≡◌ {A = ℕ} 0 1 = cc in omega arith)
    go Aborted p q = (ap is_committed p, λ op. let f : Aborted ≡ Open = sym p ∙ op.0 in let r : ◌≡◌ {A = ℕ} 0 1 = cc in omega arith)

-- one object of a state, and what came before
pub record Spot (V : Type 0) : Type 0 where
  pub clock : ℕ → ℕ
  pub acc : List (Access V)
  pub done : ℕ → Bool
  pub chains : List (List Item)
  pub clocks : List ℕ
  pub o : ℕ
  pub lo : o < length chains

abbrev pub spot : {V : Type 0} → (ℕ → ℕ) → List (Access V) → (ℕ → Bool) → (s : State) (o : ℕ) → o < length s.store.chains → Spot V
spot clock acc done s o lo = record { clock = clock; acc = acc; done = done; chains = s.store.chains; clocks = s.clocks; o = o; lo = lo }

module _ {V : Type 0} (σ : Setting V) where
  open σ use {form, parse, c, n, initial, last}

  module _ (τ : Spot V) where
    open τ use {clock, acc, done, chains, clocks, o, lo}

    -- with one object's chain, and the records, as they stand so far
    abbrev pub Now : List Item → List (Option CommitRecord) → Type 0
    Now xs rs = GoodAt σ clock acc done (record { chains = set chains o xs; records = rs; clocks = clocks })

    abbrev pub now_world : List Item → List (Option CommitRecord) → World V
    now_world xs rs = world_of acc done (record { chains = set chains o xs; records = rs; clocks = clocks })

    pub now_here : (xs : List Item) (k : ℕ) → k ≡ o → get_or (set chains o xs) k [] ≡ xs
    now_here xs k e = set_here chains o k xs [] lo e

    pub now_in : (xs : List Item) (rs : List (Option CommitRecord)) (x : Item) → x ∈ xs → x ∈ get_or (set chains o xs) o []
    now_in xs rs x i = subst (λ l. x ∈ l) (sym (now_here xs o refl)) i

    pub record Token (rs : List (Option CommitRecord)) (x : Item) : Type 0 where
      pub its : CommitRecord
      pub marked : x.mark ≡ suc (pred x.mark)
      pub used : get_or rs (pred x.mark) None ≡ Some its
      pub same : its.creation ≡ x.start / 4294967296

    pub token_of : (xs : List Item) (rs : List (Option CommitRecord)) (x : Item) → Now xs rs → x ∈ xs → is_version x ≡ false → Token rs x
    token_of xs rs x good i nv =
        let nz = eqb-false x.mark 0 nv in
        elim (good.inv.items o x (now_in xs rs x i)) [
          | inl st ↦ absurd (nz st.version)
          | inr u ↦ elim u.standing [
            | inl p ↦ absurd (nz p.0)
            | inr ow ↦
                (let nm = (good.inv.timed u.update u.made).names in
                let pl : ow.place ≡ pred x.mark = omega (arith, ow.marked) in
                record {
                  its = ow.its;
                  marked = omega (arith, ow.marked);
                  used = subst (λ y. get_or rs y None ≡ Some ow.its) pl ow.used;
                  same = omega (arith, ow.same, u.time);
                })
          ]
        ]

    pub token_fate : (rs : List (Option CommitRecord)) (x : Item) (tk : Token rs x) → fate rs clocks x ≡ standing_of clocks tk.its
    token_fate rs x tk = ap (λ r. fate_under clocks r x) tk.used ∙ cond-true (eqb (x.start / 4294967296) tk.its.creation) (standing_of clocks tk.its) Aborted (eq-eqb (x.start / 4294967296) tk.its.creation (sym tk.same))

    token_lower : (rs : List (Option CommitRecord)) (x : Item) (tk : Token rs x) → lower_under (record_at rs x.mark) x ≡ lower tk.its
    token_lower rs x tk = ap (λ r. lower_under r x) tk.used ∙ cond-true (eqb (x.start / 4294967296) tk.its.creation) (lower tk.its) (Some tk.its) (eq-eqb (x.start / 4294967296) tk.its.creation (sym tk.same))

    used_inside : (rs : List (Option CommitRecord)) (i : ℕ) (u : CommitRecord) → get_or rs i None ≡ Some u → i < length rs
    used_inside rs i u e = elim (cases_lt i (length rs)) [ inl lt ↦ lt | inr le ↦ absurd (let f : None ≡ Some u = sym (get_or-eq_default rs None le) ∙ e in let r : ◌≡◌ {A = ℕ} 0 1 = cc in omega arith) ]

    token_dead : (xs : List Item) (rs : List (Option CommitRecord)) (x : Item) → Now xs rs → (tk : Token rs x) → fate rs clocks x ≡ Aborted → Lives (now_world xs rs) (x.start / 4294967296) → ⊥
    token_dead xs rs x good tk ab l =
        let sa = standing_aborted clocks tk.its (sym (token_fate rs x tk) ∙ ab) in
        elim l [
          | inl e ↦ both_ways (done (x.start / 4294967296)) (ap done (sym tk.same) ∙ good.inv.used_com (pred x.mark) tk.its tk.used ∙ sa.0) e
          | inr a ↦
              (let j : a.0 ≡ pred x.mark = good.inv.used_one a.0 (pred x.mark) a.1 tk.its a.2 tk.used (a.3 ∙ sym tk.same) in
              let eq : a.1 ≡ tk.its = same_use (get_or rs a.0 None) a.1 tk.its a.2 (subst (λ y. get_or rs y None ≡ Some tk.its) (sym j) tk.used) in
              sa.1 (subst (λ u. OpenAt (λ j. get_or clocks j 0) u) eq a.4))
        ]

    token_done : (xs : List Item) (rs : List (Option CommitRecord)) (x : Item) → Now xs rs → (tk : Token rs x) → fate rs clocks x ≡ Committed → done (x.start / 4294967296) ≡ true
    token_done xs rs x good tk e =
        ap done (sym tk.same) ∙ good.inv.used_com (pred x.mark) tk.its tk.used ∙ ap is_committed (standing_committed clocks tk.its (sym (token_fate rs x tk) ∙ e))

    pub record Tidied (xs xs' : List Item) (rs : List (Option CommitRecord)) (x : Item) : Type 0 where
      pub back : (y' : Item) → y' ∈ xs' → (y : Item) × (y ∈ xs) × (y'.start ≡ y.start) × (y'.number ≡ y.number)
          × (((y'.mark ≡ y.mark) × (y.start ≡ x.start → ⊥)) ⊎ ((y'.mark ≡ 0) × (y.start ≡ x.start) × (fate rs clocks x ≡ Committed)))
      pub fore : (y : Item) → y ∈ xs → ((y' : Item) × (y' ∈ xs') × (y'.start ≡ y.start) × (y'.number ≡ y.number) × (y.«end» ≤ y'.«end»)) ⊎ ((y.start ≡ x.start) × (fate rs clocks x ≡ Aborted))

    module _ (xs xs' : List Item) (rs : List (Option CommitRecord)) (x : Item) (good : Now xs rs) (ix : x ∈ xs) (nv : is_version x ≡ false) (td : Tidied xs xs' rs x) where
      tok : Token rs x
      tok = token_of xs rs x good ix nv

      low : CommitRecord
      low = record { creation = tok.its.creation; expiry = tok.its.expiry; tokens = pred tok.its.tokens; standing = tok.its.standing }

      low_here : (j : ℕ) → j ≡ pred x.mark → get_or (lower_for rs x) j None ≡ Some low
      unfolding low
      low_here j e = set_here rs (pred x.mark) j (lower_under (record_at rs x.mark) x) None (used_inside rs (pred x.mark) tok.its tok.used) e ∙ token_lower rs x tok

      low_off : (j : ℕ) → (j ≡ pred x.mark → ⊥) → get_or (lower_for rs x) j None ≡ get_or rs j None
      low_off j ne = get_or-set_other rs (pred x.mark) j (lower_under (record_at rs x.mark) x) None ne

      chain_off : (k : ℕ) → (k ≡ o → ⊥) → get_or (set chains o xs') k [] ≡ get_or (set chains o xs) k []
      chain_off k ne = get_or-set_other chains o k xs' [] ne ∙ sym (get_or-set_other chains o k xs [] ne)

      kept_low : Kept tok.its low
      unfolding low
      kept_low = record { creation = refl; expiry = refl; standing = refl }

      low_open : OpenAt (λ j. get_or clocks j 0) tok.its → OpenAt (λ j. get_or clocks j 0) low
      unfolding low
      low_open a = a

      low_tokens : low.tokens ≡ pred tok.its.tokens
      unfolding low
      low_tokens = refl

      -- where an item of the new chains was
      was : (k : ℕ) (y' : Item) → y' ∈ get_or (set chains o xs') k [] → (y : Item) × (y ∈ get_or (set chains o xs) k []) × (y'.start ≡ y.start) × (y'.number ≡ y.number)
          × (((y'.mark ≡ y.mark) × (k ≡ o → y.start ≡ x.start → ⊥)) ⊎ ((y'.mark ≡ 0) × (y.start ≡ x.start) × (fate rs clocks x ≡ Committed)))
      was k y' i = elim (cases_eq k o) [
        | inl e ↦ (let r = td.back y' (subst (λ l. y' ∈ l) (now_here xs' k e) i) in
            (r.0, subst (λ l. r.0 ∈ l) (sym (now_here xs k e)) r.1, r.2, r.3, elim r.4 [ inl p ↦ inl (p.0, λ _. p.1) | inr p ↦ inr p ]))
        | inr ne ↦ (y', subst (λ l. y' ∈ l) (chain_off k ne) i, refl, refl, inl (refl, λ e. absurd (ne e)))
      ]

      tidy_tally : (i : ℕ) (u : CommitRecord) → get_or (lower_for rs x) i None ≡ Some u → Tally σ (now_world xs' (lower_for rs x)) i u.tokens
      tidy_tally i u e = elim (cases_eq i (pred x.mark)) [
        | inl q ↦
            (let t = good.inv.tally (pred x.mark) tok.its tok.used in
            let eu : u ≡ low = same_use (get_or (lower_for rs x) i None) u low e (low_here i q) in
            let tk : u.tokens ≡ pred tok.its.tokens = ap (λ (y : CommitRecord). y.tokens) eu ∙ low_tokens in
            let less = removed_less o x.start t.places (t.all o x (now_in xs rs x ix) tok.marked) in
            record {
              places = removed o x.start t.places;
              few = omega (arith, t.few);
              all = λ k y' iy m. (let r = was k y' iy in elim r.4 [
                | inl p ↦ subst (λ z. (k, z) ∈ removed o x.start t.places) (sym r.2)
                    (in_removed o x.start (k, r.0.start) t.places (t.all k r.0 r.1 (sym p.0 ∙ m ∙ ap suc q)) p.1)
                | inr p ↦ absurd (omega (arith, p.0))
              ]);
            })
        | inr ne ↦
            (let t = good.inv.tally i u (sym (low_off i ne) ∙ e) in
            record {
              places = t.places;
              few = t.few;
              all = λ k y' iy m. (let r = was k y' iy in elim r.4 [
                | inl p ↦ subst (λ z. (k, z) ∈ t.places) (sym r.2) (t.all k r.0 r.1 (sym p.0 ∙ m))
                | inr p ↦ absurd (omega (arith, p.0))
              ]);
            })
      ]

      -- an item that starts where an ended token does is that token
      dropped : (y : Item) → y ∈ xs → y.start ≡ x.start → fate rs clocks x ≡ Aborted → (1 ≤ y.mark) × (Lives (now_world xs rs) (y.start / 4294967296) → ⊥)
      dropped y iy es ab =
          let dead : Lives (now_world xs rs) (y.start / 4294967296) → ⊥ = λ l. token_dead xs rs x good tok ab (subst (λ z. Lives (now_world xs rs) (z / 4294967296)) es l) in (
            elim (good.inv.items o y (now_in xs rs y iy)) [
              | inl st ↦ (let late = token_late σ (now_world xs rs) good.inv o x (now_in xs rs x ix) (let z = eqb-false x.mark 0 nv in omega (arith, tok.marked)) in let early = good.inv.last_early o st.known in omega (arith, st.by))
              | inr u ↦ elim u.standing [
                | inl p ↦ absurd (dead (inl (let nm = (good.inv.timed u.update u.made).names in let q : y.start / 4294967296 ≡ u.update.creation = omega (arith, u.time) in ap done q ∙ p.1)))
                | inr ow ↦ omega (arith, ow.marked)
              ]
            ],
            dead,
          )

      pub tidy : Now xs' (lower_for rs x)
      tidy = record {
        size_chains = length-set chains o xs' ∙ sym (length-set chains o xs) ∙ good.size_chains;
        size_records = length-set rs (pred x.mark) (lower_under (record_at rs x.mark) x) ∙ good.size_records;
        size_clocks = good.size_clocks;
        agree = good.agree;
        inv = change σ (now_world xs rs) (λ k. get_or (set chains o xs') k []) (λ i. get_or (lower_for rs x) i None) (λ j. get_or clocks j 0) good.inv (record {
          kin = record {
            fore = λ j u e. elim (cases_eq j (pred x.mark)) [
              | inl q ↦ (low, low_here j q, subst (λ y. Kept y low) (same_use (get_or rs j None) tok.its u (subst (λ y. get_or rs y None ≡ Some tok.its) (sym q) tok.used) e) kept_low)
              | inr ne ↦ (u, low_off j ne ∙ e, record { creation = refl; expiry = refl; standing = refl })
            ];
            back = λ j u e. elim (cases_eq j (pred x.mark)) [
              | inl q ↦ (tok.its, subst (λ y. get_or rs y None ≡ Some tok.its) (sym q) tok.used, subst (λ y. Kept tok.its y) (same_use (get_or (lower_for rs x) j None) low u (low_here j q) e) kept_low)
              | inr ne ↦ (u, sym (low_off j ne) ∙ e, record { creation = refl; expiry = refl; standing = refl })
            ];
            up = λ st h. omega arith;
            top = good.inv.clocks_to;
            more = λ b i. i;
            same = λ cr. refl;
          };
          back = λ k y' i. (let r = was k y' i in (
            r.0,
            r.1,
            r.2,
            r.3,
            elim r.4 [
              | inl p ↦ inl p.0
              | inr p ↦ inr (p.0, ap (λ (z : ℕ). done (z / 4294967296)) p.1 ∙ token_done xs rs x good tok p.2)
            ],
          ));
          fore = λ k y i. elim (cases_eq k o) [
            | inl e ↦ (let iy : y ∈ xs = subst (λ l. y ∈ l) (now_here xs k e) i in
                elim (td.fore y iy) [
                  | inl r ↦ inl (r.0, subst (λ l. r.0 ∈ l) (sym (now_here xs' k e)) r.1, r.2, r.3, r.4)
                  | inr d ↦ inr (dropped y iy d.0 d.1)
                ])
            | inr ne ↦ inl (y, subst (λ l. y ∈ l) (sym (chain_off k ne)) i, refl, refl, omega arith)
          ];
          tally = tidy_tally;
        });
      }

      -- who lives goes on
      pub tidy_lives : (cr : ℕ) → Lives (now_world xs rs) cr → Lives (now_world xs' (lower_for rs x)) cr
      tidy_lives cr l = elim l [
        | inl e ↦ inl e
        | inr a ↦ elim (cases_eq a.0 (pred x.mark)) [
          | inl q ↦ (let eq : tok.its ≡ a.1 = same_use (get_or rs a.0 None) tok.its a.1 (subst (λ y. get_or rs y None ≡ Some tok.its) (sym q) tok.used) a.2 in
              let oa : OpenAt (λ j. get_or clocks j 0) tok.its = subst (λ u. OpenAt (λ j. get_or clocks j 0) u) (sym eq) a.4 in
              inr (a.0, low, low_here a.0 q, kept_low.creation ∙ ap (λ (u : CommitRecord). u.creation) eq ∙ a.3, low_open oa))
          | inr ne ↦ inr (a.0, a.1, low_off a.0 ne ∙ a.2, a.3, a.4)
        ]
      ]
