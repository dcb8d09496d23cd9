-- A new access: a read, or an update.
use Rattle.std.proofs.Common.{◌≡◌, ℕ, suc, ◌+◌, ◌*◌, ◌<◌, ◌≤◌, ◌⊎◌, List, ◌∷◌, Some, sym, refl, ap, ◌∙◌, subst, inl, inr, arith, Option}
use Rattle.std.proofs.lemmas.Bool.{cases_eq, cases_lt}
use Rattle.history.specs.declared.item.Item.{Item}
use Rattle.ledger.specs.declared.record.CommitRecord.{CommitRecord}
use Rattle.history.specs.Members.{◌∈◌, here, there}
use Rattle.serial.specs.Histories.{Access, Effect, gave, took}
use Rattle.history.proofs.Lists.{split_in}
use Rattle.serial.proofs.Invariant.{Setting, World, OpenAt, Lives, Timed, Inv, Source, Wrote, Covering, Tally}
use Rattle.serial.proofs.Moves.{Kept, Kin, Shift, kin_shift, source_move, from_move, kin_clocks, kin_timed, kin_com_old, kin_used_old, kin_used_one, kin_used_com, kin_owner, given_of}

one_effect : {V : Type 0} (e : Effect V) (v u : V) → e ≡ gave v → e ≡ took u → ⊥
one_effect e v u p q = let z : ◌≡◌ {A = ℕ} 0 1 = cc in omega arith

gave_is : {V : Type 0} (e : Effect V) (v u : V) → e ≡ gave v → e ≡ gave u → u ≡ v
gave_is e v u p q = cc

took_is : {V : Type 0} (e : Effect V) (v u : V) → e ≡ took v → e ≡ took u → u ≡ v
took_is e v u p q = cc

module _ {V : Type 0} (σ : Setting V) where
  open σ use {form, parse, c, n, initial, last}

  pub record Reading (w : World V) (b : Access V) (v : V) : Type 0 where
    pub at : ℕ
    pub whence : ((parse (initial b.object) ≡ Some v) × (at < c * 68719476736)) ⊎ Wrote σ w b v at
    pub cover : Covering σ w b at
    pub apart : (d : Access V) (u : V) → d ∈ w.acc → d.effect ≡ took u → d.object ≡ b.object
        → (Lives w d.creation) ⊎ (d.creation ≡ b.creation) → (d.time ≤ at) ⊎ (b.time < d.time)

  module _ (w : World V) (inv : Inv σ w) (b : Access V) (v : V) (gives : b.effect ≡ gave v) (clk' : ℕ → ℕ)
      (up : (site : ℕ) → site < 16 → w.clk site ≤ clk' site) (top : (site : ℕ) → site < 16 → clk' site ≤ 134217728)
      (timed : Timed c clk' b) (fall : (d : Access V) → d ∈ w.acc → d.creation ≡ b.creation → d.time < b.time)
      (rd : Reading w b v) where
    abbrev pub with_read : World V
    with_read = record { acc = b ∷ w.acc; done = w.done; chain = w.chain; rec = w.rec; clk = clk' }

    read_kin : Kin w with_read
    read_kin = record {
      fore = λ j u e. (u, e, record { creation = refl; expiry = refl; standing = refl });
      back = λ j u e. (u, e, record { creation = refl; expiry = refl; standing = refl });
      up = up;
      top = top;
      more = λ d i. there i;
      same = λ cr. refl;
    }

    read_shift : Shift c w with_read
    read_shift = kin_shift c w with_read read_kin

    read_source : Source σ with_read b v
    read_source = record {
      at = rd.at;
      whence = elim rd.whence [ inl p ↦ inl p | inr q ↦ inr (record { update = q.update; made = there q.made; updates = q.updates; object = q.object; time = q.time; below = q.below; visible = q.visible }) ];
      still = inl (record { item = rd.cover.item; inside = rd.cover.inside; starts = rd.cover.starts; reaches = rd.cover.reaches });
      apart = λ d u i e o l. elim (split_in i) [
        | inl q ↦ absurd (one_effect b.effect v u gives (subst (λ (y : Access V). y.effect ≡ took u) q e))
        | inr j ↦ rd.apart d u j e o (elim l [ inl x ↦ inl (read_shift.lives d.creation (given_of σ w inv d j) x) | inr x ↦ inr x ])
      ];
    }

    pub add_read : Inv σ with_read
    add_read = record {
      clocks_from = kin_clocks σ w with_read inv read_kin;
      clocks_to = top;
      timed = λ a i. elim (split_in i) [ inl q ↦ subst (λ y. Timed c clk' y) (sym q) timed | inr j ↦ kin_timed σ w with_read inv read_kin a j ];
      falls = (fall, inv.falls);
      com_old = kin_com_old σ w with_read inv read_kin;
      used_old = kin_used_old σ w with_read inv read_kin;
      used_one = inv.used_one;
      used_com = inv.used_com;
      items = λ o x i. elim (inv.items o x i) [
        | inl s ↦ inl s
        | inr u ↦ inr (from_move σ w with_read (λ cr e. e) (λ d j. there j) o x x refl refl
            (λ d id td st. elim st [ inl p ↦ inl p | inr ow ↦ inr (kin_owner σ w with_read read_kin d x x refl ow) ]) u)
      ];
      kept = λ a u i e l. elim (split_in i) [
        | inl q ↦ absurd (one_effect b.effect v u gives (subst (λ (y : Access V). y.effect ≡ took u) q e))
        | inr j ↦ (let hd = inv.kept a u j e (read_shift.lives a.creation (given_of σ w inv a j) l) in record { item = hd.item; inside = hd.inside; starts = hd.starts; has = hd.has })
      ];
      kept_first = λ o lt. let hd = inv.kept_first o lt in record { item = hd.item; inside = hd.inside; starts = hd.starts; has = hd.has };
      last_early = inv.last_early;
      tally = λ i u e. let t = inv.tally i u e in record { places = t.places; few = t.few; all = t.all };
      reads = λ a u i e. elim (split_in i) [
        | inl q ↦ (let e' : b.effect ≡ gave u = subst (λ (y : Access V). y.effect ≡ gave u) q e in
            subst (λ y. Source σ with_read a y) (sym (gave_is b.effect v u gives e')) (subst (λ y. Source σ with_read y v) (sym q) read_source))
        | inr j ↦ (let s = inv.reads a u j e in source_move σ w with_read inv read_shift a u j s
            (λ k. inl (record { item = k.item; inside = k.inside; starts = k.starts; reaches = k.reaches }))
            (λ d x id ed od l. elim (split_in id) [ inl q ↦ absurd (one_effect b.effect v x gives (subst (λ (y : Access V). y.effect ≡ took x) q ed)) | inr jd ↦ inl jd ]))
      ];
    }

  pub record Writing (w : World V) (b : Access V) (v : V) (chain' : ℕ → List Item) (rec' : ℕ → Option CommitRecord) : Type 0 where
    pub place : ℕ
    pub before : CommitRecord
    pub after : CommitRecord
    pub item : Item
    pub used : w.rec place ≡ Some before
    pub stays : OpenAt w.clk before
    pub names : before.creation ≡ b.creation
    pub uses : rec' place ≡ Some after
    pub kept : Kept before after
    pub one_more : after.tokens ≡ before.tokens + 1
    pub others : (j : ℕ) → (j ≡ place → ⊥) → rec' j ≡ w.rec j
    pub starts : item.start ≡ b.time
    pub marked : item.mark ≡ suc place
    pub number : item.number ≡ form v
    pub back : (o : ℕ) (x : Item) → x ∈ chain' o → (x ∈ w.chain o) ⊎ ((o ≡ b.object) × (x ≡ item))
    pub fore : (o : ℕ) (x : Item) → x ∈ w.chain o → x ∈ chain' o
    pub inside : item ∈ chain' b.object
    pub clear : (x : Item) → x ∈ w.chain b.object → (b.time < x.start) ⊎ (x.«end» < b.time)

  module _ (w : World V) (inv : Inv σ w) (b : Access V) (v : V) (takes : b.effect ≡ took v) (clk' : ℕ → ℕ)
      (up : (site : ℕ) → site < 16 → w.clk site ≤ clk' site) (top : (site : ℕ) → site < 16 → clk' site ≤ 134217728)
      (timed : Timed c clk' b) (fall : (d : Access V) → d ∈ w.acc → d.creation ≡ b.creation → d.time < b.time)
      (chain' : ℕ → List Item) (rec' : ℕ → Option CommitRecord) (wr : Writing w b v chain' rec') where
    abbrev pub with_update : World V
    with_update = record { acc = b ∷ w.acc; done = w.done; chain = chain'; rec = rec'; clk = clk' }

    same_use : (r : Option CommitRecord) (u v : CommitRecord) → r ≡ Some u → r ≡ Some v → u ≡ v
    same_use r u v p q = cc

    update_kin : Kin w with_update
    update_kin = record {
      fore = λ j u e. elim (cases_eq j wr.place) [
        | inl q ↦ (wr.after, subst (λ y. rec' y ≡ Some wr.after) (sym q) wr.uses, subst (λ y. Kept y wr.after) (same_use (w.rec j) wr.before u (subst (λ y. w.rec y ≡ Some wr.before) (sym q) wr.used) e) wr.kept)
        | inr ne ↦ (u, wr.others j ne ∙ e, record { creation = refl; expiry = refl; standing = refl })
      ];
      back = λ j u e. elim (cases_eq j wr.place) [
        | inl q ↦ (wr.before, subst (λ y. w.rec y ≡ Some wr.before) (sym q) wr.used, subst (λ y. Kept wr.before y) (same_use (rec' j) wr.after u (subst (λ y. rec' y ≡ Some wr.after) (sym q) wr.uses) e) wr.kept)
        | inr ne ↦ (u, sym (wr.others j ne) ∙ e, record { creation = refl; expiry = refl; standing = refl })
      ];
      up = up;
      top = top;
      more = λ d i. there i;
      same = λ cr. refl;
    }

    update_shift : Shift c w with_update
    update_shift = kin_shift c w with_update update_kin

    update_tally : (i : ℕ) (u : CommitRecord) → rec' i ≡ Some u → Tally σ with_update i u.tokens
    update_tally i u e = elim (cases_eq i wr.place) [
      | inl q ↦
          (let t = inv.tally wr.place wr.before wr.used in
          let eu : u ≡ wr.after = same_use (rec' i) u wr.after e (subst (λ y. rec' y ≡ Some wr.after) (sym q) wr.uses) in
          let tk : u.tokens ≡ wr.before.tokens + 1 = ap (λ (y : CommitRecord). y.tokens) eu ∙ wr.one_more in
          record {
            places = (b.object, wr.item.start) ∷ t.places;
            few = omega (arith, t.few);
            all = λ o x ix m. elim (wr.back o x ix) [
              | inl j ↦ there (t.all o x j (m ∙ ap suc q))
              | inr r ↦ subst (λ y. (y, x.start) ∈ ((b.object, wr.item.start) ∷ t.places)) (sym r.0) (subst (λ (y : Item). (b.object, y.start) ∈ ((b.object, wr.item.start) ∷ t.places)) (sym r.1) here)
            ];
          })
      | inr ne ↦
          (let t = inv.tally i u (sym (wr.others i ne) ∙ e) in
          record {
            places = t.places;
            few = t.few;
            all = λ o x ix m. elim (wr.back o x ix) [
              | inl j ↦ t.all o x j m
              | inr r ↦ absurd (ne (let m' : wr.item.mark ≡ suc i = subst (λ (y : Item). y.mark ≡ suc i) r.1 m in omega (arith, wr.marked)))
            ];
          })
    ]

    update_apart : (a : Access V) (u : V) → a ∈ w.acc → (s : Source σ w a u) → b.object ≡ a.object → (b.time ≤ s.at) ⊎ (a.time < b.time)
    update_apart a u ia s eo = elim s.still [
      | inl k ↦ elim (wr.clear k.item (subst (λ y. k.item ∈ w.chain y) (sym eo) k.inside)) [
        | inl lt ↦ inl (omega (arith, k.starts))
        | inr lt ↦ inr (omega (arith, k.reaches))
      ]
      | inr d ↦
          (let nb = timed.names in let na = (inv.timed a ia).names in
          elim (cases_lt b.creation a.creation) [
            | inl lt ↦ inl (omega (arith, d.0))
            | inr le ↦ elim (cases_eq b.creation a.creation) [
              | inl e ↦ absurd (d.1 (wr.place, wr.before, wr.used, wr.names ∙ e, wr.stays))
              | inr ne ↦ inr (omega arith)
            ]
          ])
    ]

    pub add_update : Inv σ with_update
    add_update = record {
      clocks_from = kin_clocks σ w with_update inv update_kin;
      clocks_to = top;
      timed = λ a i. elim (split_in i) [ inl q ↦ subst (λ y. Timed c clk' y) (sym q) timed | inr j ↦ kin_timed σ w with_update inv update_kin a j ];
      falls = (fall, inv.falls);
      com_old = kin_com_old σ w with_update inv update_kin;
      used_old = kin_used_old σ w with_update inv update_kin;
      used_one = kin_used_one σ w with_update inv update_kin;
      used_com = kin_used_com σ w with_update inv update_kin;
      items = λ o x i. elim (wr.back o x i) [
        | inl j ↦ elim (inv.items o x j) [
          | inl s ↦ inl s
          | inr u ↦ inr (from_move σ w with_update (λ cr e. e) (λ d k. there k) o x x refl refl
              (λ d id td st. elim st [ inl p ↦ inl p | inr ow ↦ inr (kin_owner σ w with_update update_kin d x x refl ow) ]) u)
        ]
        | inr r ↦ inr (record {
          update = b;
          value = v;
          made = here;
          updates = takes;
          object = sym r.0;
          time = sym wr.starts ∙ ap (λ (y : Item). y.start) (sym r.1);
          number = ap (λ (y : Item). y.number) r.1 ∙ wr.number;
          standing = inr (record { place = wr.place; its = wr.after; marked = ap (λ (y : Item). y.mark) r.1 ∙ wr.marked; used = wr.uses; same = wr.kept.creation ∙ wr.names });
        })
      ];
      kept = λ a u i e l. elim (split_in i) [
        | inl q ↦ (let e' : b.effect ≡ took u = subst (λ (y : Access V). y.effect ≡ took u) q e in
            record { item = wr.item; inside = subst (λ (y : Access V). wr.item ∈ chain' y.object) (sym q) wr.inside; starts = wr.starts ∙ ap (λ (y : Access V). y.time) (sym q); has = wr.number ∙ ap form (sym (took_is b.effect v u takes e')) })
        | inr j ↦ (let hd = inv.kept a u j e (update_shift.lives a.creation (given_of σ w inv a j) l) in record { item = hd.item; inside = wr.fore a.object hd.item hd.inside; starts = hd.starts; has = hd.has })
      ];
      kept_first = λ o lt. let hd = inv.kept_first o lt in record { item = hd.item; inside = wr.fore o hd.item hd.inside; starts = hd.starts; has = hd.has };
      last_early = inv.last_early;
      tally = update_tally;
      reads = λ a u i e. elim (split_in i) [
        | inl q ↦ absurd (one_effect b.effect u v (subst (λ (y : Access V). y.effect ≡ gave u) q e) takes)
        | inr j ↦ (let s = inv.reads a u j e in source_move σ w with_update inv update_shift a u j s
            (λ k. inl (record { item = k.item; inside = wr.fore a.object k.item k.inside; starts = k.starts; reaches = k.reaches }))
            (λ d x id ed od l. elim (split_in id) [ inl q ↦ inr (subst (λ (y : Access V). (y.time ≤ s.at) ⊎ (a.time < y.time)) (sym q) (update_apart a u j s (subst (λ (y : Access V). y.object ≡ a.object) q od))) | inr jd ↦ inl jd ]))
      ];
    }
