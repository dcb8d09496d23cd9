-- An action begins, commits or aborts.
use Rattle.std.proofs.Common.{◌≡◌, ℕ, suc, ◌*◌, ◌/◌, ◌%◌, ◌<◌, ◌≤◌, Bool, true, false, ◌⊎◌, [], sym, refl, ap, ◌∙◌, subst, inl, inr, arith, Some, Option}
use Rattle.std.proofs.lemmas.Bool.{cases_Bool, cases_eq, both_ways}
use Rattle.history.specs.declared.item.Item.{Item}
use Rattle.ledger.specs.declared.record.Standing.TheVariants.{Open}
use Rattle.ledger.specs.declared.record.CommitRecord.{CommitRecord}
use Rattle.history.specs.Members.{◌∈◌}
use Rattle.serial.specs.Histories.{Access}
use Rattle.serial.proofs.Invariant.{Setting, World, OpenAt, Alive, Lives, Given, Inv, Owner, Tally, is_committed}
use Rattle.serial.proofs.Moves.{Shift, source_move, from_move, given_of, given_up, timed_up}

pub same_use : (r : Option CommitRecord) (u v : CommitRecord) → r ≡ Some u → r ≡ Some v → u ≡ v
same_use r u v p q = cc

module _ {V : Type 0} (σ : Setting V) where
  open σ use {form, parse, c, n, initial, last}

  pub record Beginning (w : World V) (rec' : ℕ → Option CommitRecord) (clk' : ℕ → ℕ) : Type 0 where
    pub place : ℕ
    pub its : CommitRecord
    pub uses : rec' place ≡ Some its
    pub others : (j : ℕ) → (j ≡ place → ⊥) → rec' j ≡ w.rec j
    pub opens : its.standing ≡ Open
    pub from : c * 16 ≤ its.creation
    pub fresh : its.creation / 16 ≡ w.clk (its.creation % 16)
    pub given : its.creation / 16 < clk' (its.creation % 16)
    pub empty : (o : ℕ) (x : Item) → x ∈ w.chain o → x.mark ≡ suc place → ⊥
    pub up : (site : ℕ) → site < 16 → w.clk site ≤ clk' site
    pub top : (site : ℕ) → site < 16 → clk' site ≤ 134217728

  module _ (w : World V) (inv : Inv σ w) (rec' : ℕ → Option CommitRecord) (clk' : ℕ → ℕ) (bg : Beginning w rec' clk') where
    abbrev pub with_begun : World V
    with_begun = record { acc = w.acc; done = w.done; chain = w.chain; rec = rec'; clk = clk' }

    not_given : (cr : ℕ) → bg.its.creation ≡ cr → Given c w.clk cr → ⊥
    not_given cr e g =
        let q : w.clk (bg.its.creation % 16) ≡ w.clk (cr % 16) = ap (λ (y : ℕ). w.clk (y % 16)) e in
        omega (arith, g.1, bg.fresh)

    use_of : (j : ℕ) (u : CommitRecord) → rec' j ≡ Some u → ((j ≡ bg.place) × (u ≡ bg.its)) ⊎ ((j ≡ bg.place → ⊥) × (w.rec j ≡ Some u))
    use_of j u e = elim (cases_eq j bg.place) [
      | inl q ↦ inl (q, same_use (rec' j) u bg.its e (subst (λ y. rec' y ≡ Some bg.its) (sym q) bg.uses))
      | inr ne ↦ inr (ne, sym (bg.others j ne) ∙ e)
    ]

    begin_alive : (cr : ℕ) → Given c w.clk cr → Alive with_begun cr → Alive w cr
    begin_alive cr g a = elim (use_of a.0 a.1 a.2) [
      | inl q ↦ absurd (not_given cr (ap (λ (y : CommitRecord). y.creation) (sym q.1) ∙ a.3) g)
      | inr q ↦ (let up = bg.up (a.1.creation % 16) (omega arith) in (a.0, a.1, q.1, a.3, (a.4.0, omega (arith, a.4.1))))
    ]

    begin_shift : Shift c w with_begun
    begin_shift = record { grows = λ cr e. e; alive = begin_alive; lives = λ cr g l. elim l [ inl e ↦ inl e | inr a ↦ inr (begin_alive cr g a) ]; more = λ b i. i }

    begin_given : (cr : ℕ) → Given c w.clk cr → Given c clk' cr
    begin_given cr g = given_up c w.clk clk' cr (bg.up (cr % 16) (omega arith)) g

    begin_one : (i j : ℕ) (u v : CommitRecord) → rec' i ≡ Some u → rec' j ≡ Some v → u.creation ≡ v.creation → i ≡ j
    begin_one i j u v e f s = elim (use_of i u e) [
      | inl p ↦ elim (use_of j v f) [
        | inl q ↦ p.0 ∙ sym q.0
        | inr q ↦ absurd (not_given v.creation (ap (λ (y : CommitRecord). y.creation) (sym p.1) ∙ s) (inv.used_old j v q.1))
      ]
      | inr p ↦ elim (use_of j v f) [
        | inl q ↦ absurd (not_given u.creation (ap (λ (y : CommitRecord). y.creation) (sym q.1) ∙ sym s) (inv.used_old i u p.1))
        | inr q ↦ inv.used_one i j u v p.1 q.1 s
      ]
    ]

    begin_com : (i : ℕ) (u : CommitRecord) → rec' i ≡ Some u → w.done u.creation ≡ is_committed u.standing
    begin_com i u e = elim (use_of i u e) [
      | inl q ↦ elim (cases_Bool (w.done u.creation)) [
        | inl t ↦ absurd (not_given u.creation (ap (λ (y : CommitRecord). y.creation) (sym q.1)) (inv.com_old u.creation t))
        | inr f ↦ f ∙ ap is_committed (sym (ap (λ (y : CommitRecord). y.standing) q.1 ∙ bg.opens))
      ]
      | inr q ↦ inv.used_com i u q.1
    ]

    begin_tally : (i : ℕ) (u : CommitRecord) → rec' i ≡ Some u → Tally σ with_begun i u.tokens
    begin_tally i u e = elim (use_of i u e) [
      | inl q ↦ record { places = []; few = omega arith; all = λ o x ix m. absurd (bg.empty o x ix (m ∙ ap suc q.0)) }
      | inr q ↦ (let t = inv.tally i u q.1 in record { places = t.places; few = t.few; all = t.all })
    ]

    pub begins : Inv σ with_begun
    begins = record {
      clocks_from = λ site lt. let a = inv.clocks_from site lt in let b = bg.up site lt in omega arith;
      clocks_to = bg.top;
      timed = λ a i. timed_up c w.clk clk' a (bg.up (a.creation % 16) (omega arith)) (inv.timed a i);
      falls = inv.falls;
      com_old = λ cr e. begin_given cr (inv.com_old cr e);
      used_old = λ i u e. elim (use_of i u e) [
        | inl q ↦ subst (λ (y : CommitRecord). Given c clk' y.creation) (sym q.1) (bg.from, bg.given)
        | inr q ↦ begin_given u.creation (inv.used_old i u q.1)
      ];
      used_one = begin_one;
      used_com = begin_com;
      items = λ o x i. elim (inv.items o x i) [
        | inl s ↦ inl s
        | inr u ↦ inr (from_move σ w with_begun (λ cr e. e) (λ d j. j) o x x refl refl
            (λ d id td st. elim st [
              | inl p ↦ inl p
              | inr ow ↦ inr (record {
                place = ow.place;
                its = ow.its;
                marked = ow.marked;
                used = bg.others ow.place (λ q. bg.empty o x i (ow.marked ∙ ap suc q)) ∙ ow.used;
                same = ow.same;
              })
            ]) u)
      ];
      kept = λ a v i e l. let hd = inv.kept a v i e (begin_shift.lives a.creation (given_of σ w inv a i) l) in record { item = hd.item; inside = hd.inside; starts = hd.starts; has = hd.has };
      kept_first = λ o lt. let hd = inv.kept_first o lt in record { item = hd.item; inside = hd.inside; starts = hd.starts; has = hd.has };
      last_early = inv.last_early;
      tally = begin_tally;
      reads = λ a v i e. source_move σ w with_begun inv begin_shift a v i (inv.reads a v i e)
          (λ k. inl (record { item = k.item; inside = k.inside; starts = k.starts; reaches = k.reaches })) (λ d x id ed od l. inl id);
    }

  pub record Ending (w : World V) (rec' : ℕ → Option CommitRecord) (done' : ℕ → Bool) : Type 0 where
    pub place : ℕ
    pub before : CommitRecord
    pub after : CommitRecord
    pub used : w.rec place ≡ Some before
    pub stays : OpenAt w.clk before
    pub uses : rec' place ≡ Some after
    pub same : after.creation ≡ before.creation
    pub tokens : after.tokens ≡ before.tokens
    pub closes : after.standing ≡ Open → ⊥
    pub others : (j : ℕ) → (j ≡ place → ⊥) → rec' j ≡ w.rec j
    pub done_at : done' before.creation ≡ is_committed after.standing
    pub done_other : (cr : ℕ) → (cr ≡ before.creation → ⊥) → done' cr ≡ w.done cr

  module _ (w : World V) (inv : Inv σ w) (rec' : ℕ → Option CommitRecord) (done' : ℕ → Bool) (en : Ending w rec' done') where
    abbrev pub with_ended : World V
    with_ended = record { acc = w.acc; done = done'; chain = w.chain; rec = rec'; clk = w.clk }

    end_use : (j : ℕ) (u : CommitRecord) → rec' j ≡ Some u → ((j ≡ en.place) × (u ≡ en.after)) ⊎ ((j ≡ en.place → ⊥) × (w.rec j ≡ Some u))
    end_use j u e = elim (cases_eq j en.place) [
      | inl q ↦ inl (q, same_use (rec' j) u en.after e (subst (λ y. rec' y ≡ Some en.after) (sym q) en.uses))
      | inr ne ↦ inr (ne, sym (en.others j ne) ∙ e)
    ]

    -- the record's action before
    end_was : (j : ℕ) (u : CommitRecord) → rec' j ≡ Some u → (v : CommitRecord) × (w.rec j ≡ Some v) × (u.creation ≡ v.creation) × (u.tokens ≡ v.tokens)
    end_was j u e = elim (end_use j u e) [
      | inl q ↦ (en.before, subst (λ y. w.rec y ≡ Some en.before) (sym q.0) en.used, ap (λ (y : CommitRecord). y.creation) q.1 ∙ en.same, ap (λ (y : CommitRecord). y.tokens) q.1 ∙ en.tokens)
      | inr q ↦ (u, q.1, refl, refl)
    ]

    end_alive : (cr : ℕ) → Alive with_ended cr → Alive w cr
    end_alive cr a = elim (end_use a.0 a.1 a.2) [
      | inl q ↦ absurd (en.closes (ap (λ (y : CommitRecord). y.standing) (sym q.1) ∙ a.4.0))
      | inr q ↦ (a.0, a.1, q.1, a.3, a.4)
    ]

    end_undone : w.done en.before.creation ≡ false
    end_undone = inv.used_com en.place en.before en.used ∙ ap is_committed en.stays.0

    end_lives : (cr : ℕ) → Lives with_ended cr → Lives w cr
    end_lives cr l = elim l [
      | inl e ↦ elim (cases_eq cr en.before.creation) [
        | inl q ↦ inr (en.place, en.before, en.used, sym q, en.stays)
        | inr ne ↦ inl (sym (en.done_other cr ne) ∙ e)
      ]
      | inr a ↦ inr (end_alive cr a)
    ]

    end_grows : (cr : ℕ) → w.done cr ≡ true → done' cr ≡ true
    end_grows cr e = elim (cases_eq cr en.before.creation) [
      | inl q ↦ absurd (both_ways (w.done cr) (ap w.done q ∙ end_undone) e)
      | inr ne ↦ en.done_other cr ne ∙ e
    ]

    end_shift : Shift c w with_ended
    end_shift = record { grows = end_grows; alive = λ cr g a. end_alive cr a; lives = λ cr g l. end_lives cr l; more = λ b i. i }

    end_com : (i : ℕ) (u : CommitRecord) → rec' i ≡ Some u → done' u.creation ≡ is_committed u.standing
    end_com i u e = elim (end_use i u e) [
      | inl q ↦ ap (λ (y : CommitRecord). done' y.creation) q.1 ∙ ap done' en.same ∙ en.done_at ∙ ap (λ (y : CommitRecord). is_committed y.standing) (sym q.1)
      | inr q ↦ en.done_other u.creation (λ s. q.0 (inv.used_one i en.place u en.before q.1 en.used s)) ∙ inv.used_com i u q.1
    ]

    end_old : (cr : ℕ) → done' cr ≡ true → Given c w.clk cr
    end_old cr e = elim (cases_eq cr en.before.creation) [
      | inl q ↦ subst (λ y. Given c w.clk y) (sym q) (inv.used_old en.place en.before en.used)
      | inr ne ↦ inv.com_old cr (sym (en.done_other cr ne) ∙ e)
    ]

    end_owner : (b : Access V) (x : Item) → Owner σ w b x → Owner σ with_ended b x
    end_owner b x ow = elim (cases_eq ow.place en.place) [
      | inl q ↦ record {
        place = ow.place;
        its = en.after;
        marked = ow.marked;
        used = subst (λ y. rec' y ≡ Some en.after) (sym q) en.uses;
        same = en.same ∙ ap (λ (y : CommitRecord). y.creation) (same_use (w.rec ow.place) en.before ow.its (subst (λ y. w.rec y ≡ Some en.before) (sym q) en.used) ow.used) ∙ ow.same;
      }
      | inr ne ↦ record { place = ow.place; its = ow.its; marked = ow.marked; used = en.others ow.place ne ∙ ow.used; same = ow.same }
    ]

    pub ends : Inv σ with_ended
    ends = record {
      clocks_from = inv.clocks_from;
      clocks_to = inv.clocks_to;
      timed = inv.timed;
      falls = inv.falls;
      com_old = end_old;
      used_old = λ i u e. let r = end_was i u e in subst (λ y. Given c w.clk y) (sym r.2) (inv.used_old i r.0 r.1);
      used_one = λ i j u v e f s. let r = end_was i u e in let q = end_was j v f in inv.used_one i j r.0 q.0 r.1 q.1 (sym r.2 ∙ s ∙ q.2);
      used_com = end_com;
      items = λ o x i. elim (inv.items o x i) [
        | inl s ↦ inl s
        | inr u ↦ inr (from_move σ w with_ended end_grows (λ d j. j) o x x refl refl
            (λ d id td st. elim st [ inl p ↦ inl (p.0, end_grows d.creation p.1) | inr ow ↦ inr (end_owner d x ow) ]) u)
      ];
      kept = λ a v i e l. let hd = inv.kept a v i e (end_lives a.creation l) in record { item = hd.item; inside = hd.inside; starts = hd.starts; has = hd.has };
      kept_first = λ o lt. let hd = inv.kept_first o lt in record { item = hd.item; inside = hd.inside; starts = hd.starts; has = hd.has };
      last_early = inv.last_early;
      tally = λ i u e. let r = end_was i u e in let t = inv.tally i r.0 r.1 in record { places = t.places; few = omega (arith, t.few, r.3); all = t.all };
      reads = λ a v i e. source_move σ w with_ended inv end_shift a v i (inv.reads a v i e)
          (λ k. inl (record { item = k.item; inside = k.inside; starts = k.starts; reaches = k.reaches })) (λ d x id ed od l. inl id);
    }
