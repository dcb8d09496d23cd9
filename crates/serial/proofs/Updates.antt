-- Update keeps the invariant.
use Rattle.std.proofs.Common.{◌≡◌, ℕ, pred, ◌+◌, ◌%◌, ◌<◌, ◌≤◌, Bool, true, false, cond, ◌||◌, eqb, ltb, leb, ◌⊎◌, List, [], length, get_or, set, Some, None, Option, sym, refl, ap, ◌∙◌, subst, inl, inr, arith, length-set, get_or-set_other, get_or-set_same, leb-false}
use Rattle.std.proofs.lemmas.Bool.{cases_eq, cond_both}
use Rattle.history.specs.declared.item.Item.{Item}
use Rattle.ledger.specs.declared.record.Event.TheVariants.{Abort as AbortEvent}
use Rattle.ledger.specs.declared.record.CommitRecord.{CommitRecord}
use Rattle.ledger.specs.declared.refusal.Refusal.TheVariants.{ClockSpent}
use Rattle.ledger.specs.declared.call.Call.TheVariants.{Update}
use Rattle.ledger.specs.Time.{stamp, is_spent, spent_at, pseudo, site_of}
use Rattle.register.specs.State.{State, contents}
use Rattle.ledger.specs.Records.{clock_at, record_at, take_stamp, concluded, change_record, one_token_more}
use Rattle.ledger.specs.Checks.{Ticket, spent_check, ticket_check, time_of}
use Rattle.register.specs.Calls.{fit_check, update, update_by}
use Rattle.history.specs.Members.{◌∈◌}
use Rattle.serial.specs.Histories.{Access, took, deed}
use Rattle.serial.proofs.Invariant.{Setting, Given, Timed}
use Rattle.serial.proofs.Good.{seen, world_of, GoodAt, After, unless, by_option, first_none, when_none, set_here, Ticketed, ticketed, set_up, set_top, set_agree}
use Rattle.history.specs.declared.item.Cause.{Cause}
use Rattle.history.specs.declared.item.Cause.TheVariants.{NoObject as NoObjectCause, OutOfRange as OutOfRangeCause, Overlap, NoRoom as NoRoomCause}
use Rattle.history.specs.Chain.{some_item, covers, put_in}
use Rattle.history.specs.Meaning.{chain_of, objects_of, cause_of, cause_in, fault_of, either, too_large, Op}
use Rattle.history.specs.Meaning.Op.{Put}
use Rattle.ledger.specs.Refusals.{refusal_of, aborts}
use Rattle.serial.specs.Histories.{select, wrote}
use Rattle.history.proofs.Chains.{of_put, in_put_new, in_put_old, uncovered}
use Rattle.serial.proofs.Adds.{add_update}
use Rattle.serial.proofs.Short.{abort_put}

cause_none : (x : Cause) → ◌≡◌ {A = Option Cause} (Some x) None → ⊥
cause_none x e = let z : ◌≡◌ {A = ℕ} 0 1 = cc in omega arith

pub either_none : (b : Bool) (x : Cause) (other : Option Cause) → either b x other ≡ None → (b ≡ false) × (other ≡ None)
either_none true x other e = absurd (cause_none x e)
either_none false x other e = (refl, e)

module _ {V : Type 0} (σ : Setting V) where
  open σ use {form, parse, c, n, initial, last}

  module _ (clock : ℕ → ℕ) (acc : List (Access V)) (done : ℕ → Bool) (s : State) (good : GoodAt σ clock acc done (seen (contents s))) where
    -- the time that an action's next access has

    pub time_is : (t : Ticket) → select t.1 (clock (t.1 % 16)) ≡ time_of s.clocks t.1
    time_is t = ap (λ (y : ℕ). pseudo t.1 (stamp y (t.1 % 16))) (sym (good.agree (t.1 % 16) (omega arith)))

    pub own_given : (t : Ticket) → Ticketed s t → Given c (λ j. get_or s.clocks j 0) t.1
    own_given t tk = subst (λ y. Given c (λ j. get_or s.clocks j 0) y) tk.same (good.inv.used_old (pred t.0) tk.its tk.used)

    pub own_timed : (t : Ticket) → Ticketed s t → clock_at s.clocks (t.1 % 16) < 134217728 → (b : Access V) → b.creation ≡ t.1 → b.time ≡ time_of s.clocks t.1
        → Timed c (λ j. get_or (take_stamp s.clocks (t.1 % 16)) j 0) b
    own_timed t tk unspent b ec et =
        let g = own_given t tk in
        let sz = good.size_clocks in
        let lt : t.1 % 16 < length s.clocks = omega arith in
        let at : b.creation % 16 ≡ t.1 % 16 = ap (λ (y : ℕ). y % 16) ec in
        let now : get_or (take_stamp s.clocks (t.1 % 16)) (b.creation % 16) 0 ≡ clock_at s.clocks (t.1 % 16) + 1 = set_here s.clocks (t.1 % 16) (b.creation % 16) (clock_at s.clocks (t.1 % 16) + 1) 0 lt at in
        record { from = omega (arith, g.0); old = omega (arith, g.1, now); names = omega arith; before = omega (arith, now) }

    pub own_fall : (t : Ticket) (d : Access V) → d ∈ acc → d.creation ≡ t.1 → d.time < time_of s.clocks t.1
    own_fall t d i e =
        let td = good.inv.timed d i in
        let q : get_or s.clocks (d.creation % 16) 0 ≡ get_or s.clocks (t.1 % 16) 0 = ap (λ (y : ℕ). get_or s.clocks (y % 16) 0) e in
        omega (arith, td.before)

    pub stamp_up : (st : ℕ) → st < length s.clocks → (site : ℕ) → site < 16 → get_or s.clocks site 0 ≤ get_or (take_stamp s.clocks st) site 0
    stamp_up st lt site h = set_up s.clocks st (clock_at s.clocks st + 1) lt (omega arith) site

    pub stamp_top : (st : ℕ) → st < length s.clocks → clock_at s.clocks st < 134217728 → (site : ℕ) → site < 16 → get_or (take_stamp s.clocks st) site 0 ≤ 134217728
    stamp_top st lt u site h = set_top s.clocks st (clock_at s.clocks st + 1) 134217728 lt (omega arith) site (good.inv.clocks_to site h)

    pub stamp_agree : (st : ℕ) → st < length s.clocks → (site : ℕ) → site < 16 → get_or (take_stamp s.clocks st) site 0 ≡ cond (eqb st site) (clock site + 1) (clock site)
    stamp_agree st lt site h = set_agree s.clocks st (clock_at s.clocks st + 1) site (clock site) (clock site + 1) lt (good.agree site h) (λ q. ap (λ (y : ℕ). y + 1) (ap (λ (y : ℕ). get_or s.clocks y 0) (sym q) ∙ good.agree site h))

    update_put : (t : Ticket) (o : ℕ) (v : V) → Ticketed s t → clock_at s.clocks (t.1 % 16) < 134217728 → o < length s.store.chains
        → some_item (covers (time_of s.clocks t.1)) (chain_of s.store o) ≡ false
        → After σ clock acc done (wrote t o v) (record {
          chains = set s.store.chains o (put_in (chain_of s.store o) (record { start = time_of s.clocks t.1; «end» = time_of s.clocks t.1; mark = t.0; number = form v }));
          records = change_record one_token_more s.records t.0;
          clocks = take_stamp s.clocks (t.1 % 16);
        })
    update_put t o v tk unspent lo free =
        let p : ℕ = time_of s.clocks t.1 in
        let item : Item = record { start = p; «end» = p; mark = t.0; number = form v } in
        let b : Access V = record { object = o; creation = t.1; time = select t.1 (clock (t.1 % 16)); glance = false; effect = took v } in
        let tb : b.time ≡ p = time_is t in
        let xs : List Item = chain_of s.store o in
        let r : Option CommitRecord = one_token_more (record_at s.records t.0) in
        let after : CommitRecord = record { creation = tk.its.creation; expiry = tk.its.expiry; tokens = tk.its.tokens + 1; standing = tk.its.standing } in
        let is : r ≡ Some after = ap one_token_more tk.used in
        let szr = good.size_records in
        let szc = good.size_clocks in
        let lr : pred t.0 < length s.records = omega (arith, tk.in_range) in
        let lt : t.1 % 16 < length s.clocks = omega arith in
        let chain' : ℕ → List Item = λ k. get_or (set s.store.chains o (put_in xs item)) k [] in
        let at-o : (k : ℕ) → k ≡ o → chain' k ≡ put_in xs item = λ k e. set_here s.store.chains o k (put_in xs item) [] lo e in
        let off-o : (k : ℕ) → (k ≡ o → ⊥) → chain' k ≡ get_or s.store.chains k [] = λ k ne. get_or-set_other s.store.chains o k (put_in xs item) [] ne in
        record {
          size_chains = length-set s.store.chains o (put_in xs item) ∙ good.size_chains;
          size_records = length-set s.records (pred t.0) r ∙ good.size_records;
          size_clocks = length-set s.clocks (t.1 % 16) _ ∙ good.size_clocks;
          agree = stamp_agree (t.1 % 16) lt;
          inv = add_update σ (world_of acc done (seen (contents s))) good.inv b v refl (λ j. get_or (take_stamp s.clocks (t.1 % 16)) j 0)
              (stamp_up (t.1 % 16) lt) (stamp_top (t.1 % 16) lt unspent) (own_timed t tk unspent b refl tb)
              (λ d i e. subst (λ y. d.time < y) (sym tb) (own_fall t d i e))
              chain' (λ i. get_or (set s.records (pred t.0) r) i None) (record {
                place = pred t.0;
                before = tk.its;
                after = after;
                item = item;
                used = tk.used;
                stays = tk.opens;
                names = tk.same;
                uses = get_or-set_same s.records (pred t.0) r None lr ∙ is;
                kept = record { creation = refl; expiry = refl; standing = refl };
                one_more = refl;
                others = λ j ne. get_or-set_other s.records (pred t.0) j r None ne;
                starts = sym tb;
                marked = tk.marked;
                number = refl;
                back = λ k x i. elim (cases_eq k o) [
                  | inl e ↦ elim (of_put xs item x (subst (λ l. x ∈ l) (at-o k e) i)) [ inl j ↦ inl (subst (λ y. x ∈ get_or s.store.chains y []) (sym e) j) | inr q ↦ inr (e, q) ]
                  | inr ne ↦ inl (subst (λ l. x ∈ l) (off-o k ne) i)
                ];
                fore = λ k x i. elim (cases_eq k o) [
                  | inl e ↦ subst (λ l. x ∈ l) (sym (at-o k e)) (in_put_old xs item x (subst (λ y. x ∈ get_or s.store.chains y []) e i))
                  | inr ne ↦ subst (λ l. x ∈ l) (sym (off-o k ne)) i
                ];
                inside = subst (λ l. item ∈ l) (sym (at-o o refl)) (in_put_new xs item);
                clear = λ x i. subst (λ y. (y < x.start) ⊎ (x.«end» < y)) (sym tb) (uncovered xs p x free i);
              });
        }

    pub update_good : (t : Ticket) (o : ℕ) (v : V) → After σ clock acc done (deed (Update t o v) (update form s t o v).answer) (seen (update form s t o v).after)
    update_good t o v = unless _ s _ (λ out. After σ clock acc done (deed (Update t o v) out.answer) (seen out.after))
        (λ why. good)
        (λ e.
        let a = first_none (ticket_check s.records s.clocks t) (spent_check s.clocks (site_of t.1)) (first_none (fit_check s) _ e).1 in
        let tk = ticketed s t a.0 in
        let unspent : clock_at s.clocks (t.1 % 16) < 134217728 = leb-false spent_at (clock_at s.clocks (t.1 % 16)) (when_none (is_spent (clock_at s.clocks (t.1 % 16))) ClockSpent a.1) in
        let op : Op = Put (time_of s.clocks t.1) t.0 (form v) in
        by_option (cause_of s.store o op) (update_by form s t o v (time_of s.clocks t.1) op) (λ out. After σ clock acc done (deed (Update t o v) out.answer) (seen out.after))
        (λ k.
        let b = either_none (leb (objects_of s.store) o) NoObjectCause (cause_in (chain_of s.store o) (s.store.room o) op) k in
        let lo : o < length s.store.chains = leb-false (objects_of s.store) o b.0 in
        let d = either_none (too_large (time_of s.clocks t.1) || ltb 64 t.0) OutOfRangeCause (either (some_item (covers (time_of s.clocks t.1)) (chain_of s.store o)) Overlap (either (eqb (s.store.room o) 0) NoRoomCause None)) b.1 in
        let f = either_none (some_item (covers (time_of s.clocks t.1)) (chain_of s.store o)) Overlap (either (eqb (s.store.room o) 0) NoRoomCause None) d.1 in
        update_put t o v tk unspent lo f.0)
        (λ x _. cond_both (aborts (refusal_of (fault_of s.store o op x))) (change_record (concluded AbortEvent) s.records t.0) s.records
        (λ rs. GoodAt σ clock acc done (record { chains = s.store.chains; records = rs; clocks = s.clocks }))
        (λ _. abort_put σ clock acc done s good t tk) (λ _. good)))
