-- Begin, commit, abort, tick and standing keep the invariant.
use Rattle.std.proofs.Common.{◌≡◌, ℕ, suc, pred, ◌+◌, ◌*◌, ◌%◌, ◌<◌, ◌≤◌, Bool, true, false, cond, not, ◌||◌, eqb, ltb, leb, List, [], ◌∷◌, length, get_or, set, sym, refl, ap, ◌∙◌, inl, inr, arith, length-set, get_or-set_other, get_or-set_same, ltb-false, eq-eqb, ne_eqb, eqb-true, leb-false, Some, None, Option}
use borrow.Author.Tests.{eqb-false}
use Rattle.std.proofs.lemmas.Bool.{or_parts, or_left, and_parts, not-false}
use Rattle.history.specs.declared.item.Item.{Item}
use Rattle.ledger.specs.declared.record.Standing.TheVariants.{Open, Committed, Aborted}
use Rattle.ledger.specs.declared.record.Event.{Event}
use Rattle.ledger.specs.declared.record.Event.TheVariants.{Commit as CommitEvent, Abort as AbortEvent}
use Rattle.ledger.specs.declared.record.CommitRecord.{CommitRecord}
use Rattle.ledger.specs.declared.refusal.Refusal.TheVariants.{NoRecord, OutOfRange, RecordInUse, ClockSpent, TickBack}
use Rattle.ledger.specs.declared.call.Call.TheVariants.{Begin, Commit, Abort, Tick, Standing as StandingCall}
use Rattle.ledger.specs.Time.{is_spent, spent_at}
use Rattle.register.specs.State.{State, contents}
use Rattle.ledger.specs.Records.{clock_at, record_at, next, is_free, take_stamp, opened, concluded, change_record}
use Rattle.ledger.specs.Checks.{Ticket, record_check, site_check, lifetime_check, spent_check}
use Rattle.register.specs.Calls.{fit_check, begin, conclude, tick, standing}
use Rattle.ledger.specs.Refusals.{first, when}
use Rattle.history.specs.Members.{◌∈◌}
use Rattle.serial.specs.Histories.{Access, deed}
use Rattle.serial.proofs.Invariant.{Setting, World, Inv, is_committed}
use Rattle.serial.proofs.Moves.{change}
use Rattle.serial.proofs.Ends.{begins, ends}
use Rattle.serial.proofs.Good.{seen, world_of, GoodAt, After, unless, first_none, when_none, set_here, Ticketed, ticketed, set_up, set_top, set_agree}

unused_used : (u : CommitRecord) → None ≡ Some u → ⊥
unused_used u e = let z : ◌≡◌ {A = ℕ} 0 1 = cc in omega arith

none_in : {A : Type 0} (x : A) (l : List A) → length l ≤ 0 → x ∈ l → ⊥
none_in x [] h i = elim i [ ]
none_in x (y ∷ l) h i = omega arith

module _ {V : Type 0} (σ : Setting V) where
  open σ use {form, parse, c, n, initial, last}

  -- clocks alone rise
  pub ticks : (w : World V) → Inv σ w → (clk' : ℕ → ℕ) → ((site : ℕ) → site < 16 → w.clk site ≤ clk' site) → ((site : ℕ) → site < 16 → clk' site ≤ 134217728)
      → Inv σ (record { acc = w.acc; done = w.done; chain = w.chain; rec = w.rec; clk = clk' })
  ticks w inv clk' up top = change σ w w.chain w.rec clk' inv (record {
    kin = record { fore = λ j u e. (u, e, record { creation = refl; expiry = refl; standing = refl }); back = λ j u e. (u, e, record { creation = refl; expiry = refl; standing = refl }); up = up; top = top; more = λ b i. i; same = λ cr. refl };
    back = λ o x i. (x, i, refl, refl, inl refl);
    fore = λ o x i. inl (x, i, refl, refl, omega arith);
    tally = λ i u e. let t = inv.tally i u e in record { places = t.places; few = t.few; all = t.all };
  })

  -- a free record has no token
  pub free_empty : (w : World V) → Inv σ w → (clocks : List ℕ) (i : ℕ) → is_free clocks (w.rec i) ≡ true → (o : ℕ) (x : Item) → x ∈ w.chain o → x.mark ≡ suc i → ⊥
  free_empty w inv clocks i free o x ix m = go (w.rec i) refl free
    where
      go : (r : Option CommitRecord) → w.rec i ≡ r → is_free clocks r ≡ true → ⊥
      go None e f = elim (inv.items o x ix) [
        | inl s ↦ omega (arith, s.version)
        | inr u ↦ elim u.standing [
          | inl p ↦ omega (arith, p.0)
          | inr ow ↦ (let q : ow.place ≡ i = omega (arith, ow.marked) in unused_used ow.its (sym e ∙ ap w.rec (sym q) ∙ ow.used))
        ]
      ]
      go (Some u) e f =
          let t = inv.tally i u e in
          let z = eqb-true u.tokens 0 (and_parts _ (eqb u.tokens 0) f).1 in
          none_in (o, x.start) t.places (omega (arith, t.few)) (t.all o x ix m)

  module _ (clock : ℕ → ℕ) (acc : List (Access V)) (done : ℕ → Bool) (s : State) (good : GoodAt σ clock acc done (seen (contents s))) where
    pub tick_good : (site k : ℕ) → After σ clock acc done (deed {V = V} (Tick site k) (tick s site k).answer) (seen (tick {V = V} s site k).after)
    tick_good site k = unless _ s _ (λ out. After σ clock acc done (deed {V = V} (Tick site k) out.answer) (seen out.after))
        (λ why. good)
        (λ e.
        let a = first_none (fit_check s) (first (site_check site) (when (leb k (clock_at s.clocks site) || leb spent_at k) TickBack)) e in
        let b = first_none (site_check site) (when (leb k (clock_at s.clocks site) || leb spent_at k) TickBack) a.1 in
        let ls : site ≤ 15 = ltb-false 15 site (when_none (ltb 15 site) OutOfRange b.0) in
        let r = or_parts (leb k (clock_at s.clocks site)) (leb spent_at k) (when_none (leb k (clock_at s.clocks site) || leb spent_at k) TickBack b.1) in
        let more : clock_at s.clocks site < k = leb-false k (clock_at s.clocks site) r.0 in
        let less : k < 134217728 = leb-false spent_at k r.1 in
        let sz = good.size_clocks in
        let lt : site < length s.clocks = omega arith in
        record {
          size_chains = good.size_chains;
          size_records = good.size_records;
          size_clocks = length-set s.clocks site k ∙ good.size_clocks;
          agree = λ st h. set_agree s.clocks site k st (clock st) k lt (good.agree st h) (λ _. refl);
          inv = ticks _ good.inv (λ j. get_or (set s.clocks site k) j 0) (λ st h. set_up s.clocks site k lt (omega arith) st) (λ st h. set_top s.clocks site k 134217728 lt (omega arith) st (good.inv.clocks_to st h));
        })

    pub standing_good : (r : ℕ) → After σ clock acc done (deed {V = V} (StandingCall r) (standing s r).answer) (seen (standing {V = V} s r).after)
    standing_good r = unless _ s _ (λ out. After σ clock acc done (deed {V = V} (StandingCall r) out.answer) (seen out.after)) (λ why. good) (λ e. good)

    begin_put : (r site lifetime : ℕ) → site < length s.clocks → pred r < length s.records → site < 16 → is_free s.clocks (record_at s.records r) ≡ true → clock_at s.clocks site < 134217728
        → GoodAt σ (λ st. cond (eqb site st) (clock st + 1) (clock st)) acc done (record {
          chains = s.store.chains;
          records = set s.records (pred r) (opened (clock_at s.clocks site) site lifetime);
          clocks = take_stamp s.clocks site;
        })
    begin_put r site lifetime lt lr ls free unspent =
        let κ : ℕ = clock_at s.clocks site in
        let its : CommitRecord = record { creation = κ * 16 + site; expiry = κ + lifetime; tokens = 0; standing = Open } in
        let from = good.inv.clocks_from site ls in
        let at : (κ * 16 + site) % 16 ≡ site = omega arith in
        let up : (st : ℕ) → st < 16 → get_or s.clocks st 0 ≤ get_or (set s.clocks site (κ + 1)) st 0 = λ st h. set_up s.clocks site (κ + 1) lt (omega arith) st in
        let now : get_or (set s.clocks site (κ + 1)) ((κ * 16 + site) % 16) 0 ≡ κ + 1 = set_here s.clocks site ((κ * 16 + site) % 16) (κ + 1) 0 lt at in
        let was : get_or s.clocks ((κ * 16 + site) % 16) 0 ≡ κ = ap (λ (y : ℕ). get_or s.clocks y 0) at in
        record {
          size_chains = good.size_chains;
          size_records = length-set s.records (pred r) (Some its) ∙ good.size_records;
          size_clocks = length-set s.clocks site (κ + 1) ∙ good.size_clocks;
          agree = λ st h. set_agree s.clocks site (κ + 1) st (clock st) (clock st + 1) lt (good.agree st h) (λ q. ap (λ (y : ℕ). y + 1) (ap (λ (y : ℕ). get_or s.clocks y 0) (sym q) ∙ good.agree st h));
          inv = begins σ (world_of acc done (seen (contents s))) good.inv (λ i. get_or (set s.records (pred r) (Some its)) i None) (λ j. get_or (set s.clocks site (κ + 1)) j 0) (record {
            place = pred r;
            its = its;
            uses = get_or-set_same s.records (pred r) (Some its) None lr;
            others = λ j ne. get_or-set_other s.records (pred r) j (Some its) None ne;
            opens = refl;
            from = omega arith;
            fresh = omega (arith, was);
            given = omega (arith, now);
            empty = free_empty (world_of acc done (seen (contents s))) good.inv s.clocks (pred r) free;
            up = up;
            top = λ st h. set_top s.clocks site (κ + 1) 134217728 lt (omega arith) st (good.inv.clocks_to st h);
          });
        }

    pub begin_good : (r site lifetime : ℕ) → After σ clock acc done (deed {V = V} (Begin r site lifetime) (begin s r site lifetime).answer) (seen (begin {V = V} s r site lifetime).after)
    begin_good r site lifetime = unless _ s _ (λ out. After σ clock acc done (deed {V = V} (Begin r site lifetime) out.answer) (seen out.after))
        (λ why. good)
        (λ e.
        let κ : ℕ = clock_at s.clocks site in
        let c5 = spent_check s.clocks site in
        let c4 = first (when (not (is_free s.clocks (record_at s.records r))) RecordInUse) c5 in
        let c3 = first (lifetime_check lifetime) c4 in
        let c2 = first (site_check site) c3 in
        let c1 = first (record_check r) c2 in
        let e1 = first_none (fit_check s) c1 e in
        let e2 = first_none (record_check r) c2 e1.1 in
        let e3 = first_none (site_check site) c3 e2.1 in
        let e4 = first_none (lifetime_check lifetime) c4 e3.1 in
        let e5 = first_none (when (not (is_free s.clocks (record_at s.records r))) RecordInUse) c5 e4.1 in
        let range = or_parts (eqb r 0) (ltb 64 r) (when_none (eqb r 0 || ltb 64 r) NoRecord e2.0) in
        let nz = eqb-false r 0 range.0 in
        let le = ltb-false 64 r range.1 in
        let ls : site ≤ 15 = ltb-false 15 site (when_none (ltb 15 site) OutOfRange e3.0) in
        let free : is_free s.clocks (record_at s.records r) ≡ true = not-false (is_free s.clocks (record_at s.records r)) (when_none (not (is_free s.clocks (record_at s.records r))) RecordInUse e5.0) in
        let unspent : κ < 134217728 = leb-false spent_at κ (when_none (is_spent κ) ClockSpent e5.1) in
        let szc = good.size_clocks in
        let szr = good.size_records in
        let lt : site < length s.clocks = omega arith in
        let lr : pred r < length s.records = omega arith in
        begin_put r site lifetime lt lr (omega arith) free unspent)

    end_put : (e : Event) (t : Ticket) (done' : ℕ → Bool) → (next Open e ≡ Open → ⊥) → (tk : Ticketed s t) → (done' t.1 ≡ is_committed (next Open e)) → ((cr : ℕ) → (cr ≡ t.1 → ⊥) → done' cr ≡ done cr)
        → GoodAt σ clock acc done' (record {
          chains = s.store.chains;
          records = change_record (concluded e) s.records t.0;
          clocks = s.clocks;
        })
    end_put e t done' closes tk at other =
        let after : CommitRecord = record { creation = tk.its.creation; expiry = tk.its.expiry; tokens = tk.its.tokens; standing = next Open e } in
        let r : Option CommitRecord = concluded e (record_at s.records t.0) in
        let is : r ≡ Some after = ap (concluded e) tk.used ∙ ap (λ w. Some (record { creation = tk.its.creation; expiry = tk.its.expiry; tokens = tk.its.tokens; standing = next w e })) tk.opens.0 in
        let szr = good.size_records in
        let lr : pred t.0 < length s.records = omega (arith, tk.in_range) in
        record {
          size_chains = good.size_chains;
          size_records = length-set s.records (pred t.0) r ∙ good.size_records;
          size_clocks = good.size_clocks;
          agree = good.agree;
          inv = ends σ (world_of acc done (seen (contents s))) good.inv (λ i. get_or (set s.records (pred t.0) r) i None) done' (record {
            place = pred t.0;
            before = tk.its;
            after = after;
            used = tk.used;
            stays = tk.opens;
            uses = get_or-set_same s.records (pred t.0) r None lr ∙ is;
            same = refl;
            tokens = refl;
            closes = closes;
            others = λ j ne. get_or-set_other s.records (pred t.0) j r None ne;
            done_at = ap done' tk.same ∙ at;
            done_other = λ cr ne. other cr (λ q. ne (q ∙ sym tk.same));
          });
        }

    committed_open : Committed ≡ Open → ⊥
    committed_open e = let z : ◌≡◌ {A = ℕ} 0 1 = cc in omega arith

    aborted_open : Aborted ≡ Open → ⊥
    aborted_open e = let z : ◌≡◌ {A = ℕ} 0 1 = cc in omega arith

    undone : (t : Ticket) → Ticketed s t → done t.1 ≡ false
    undone t tk = ap done (sym tk.same) ∙ good.inv.used_com (pred t.0) tk.its tk.used ∙ ap is_committed tk.opens.0

    pub commit_good : (t : Ticket) → After σ clock acc done (deed {V = V} (Commit t) (conclude CommitEvent s t).answer) (seen (conclude {V = V} CommitEvent s t).after)
    commit_good t = unless _ s _ (λ out. After σ clock acc done (deed {V = V} (Commit t) out.answer) (seen out.after))
        (λ why. good)
        (λ e. end_put CommitEvent t (λ cr. eqb t.1 cr || done cr) committed_open (ticketed s t (first_none (fit_check s) _ e).1) (or_left (eqb t.1 t.1) (done t.1) (eq-eqb t.1 t.1 refl))
        (λ cr ne. ap (λ (y : Bool). y || done cr) (ne_eqb t.1 cr (λ q. ne (sym q)))))

    -- an action aborted, by itself or by a refused update
    pub abort_put : (t : Ticket) → Ticketed s t → GoodAt σ clock acc done (record {
      chains = s.store.chains;
      records = change_record (concluded AbortEvent) s.records t.0;
      clocks = s.clocks;
    })
    abort_put t tk = end_put AbortEvent t done aborted_open tk (undone t tk) (λ cr ne. refl)

    pub abort_good : (t : Ticket) → After σ clock acc done (deed {V = V} (Abort t) (conclude AbortEvent s t).answer) (seen (conclude {V = V} AbortEvent s t).after)
    abort_good t = unless _ s _ (λ out. After σ clock acc done (deed {V = V} (Abort t) out.answer) (seen out.after))
        (λ why. good)
        (λ e. abort_put t (ticketed s t (first_none (fit_check s) _ e).1))
