-- The invariant goes on through each kind of move.
use Rattle.std.proofs.Common.{◌≡◌, ℕ, ◌*◌, ◌/◌, ◌%◌, ◌<◌, ◌≤◌, true, ◌⊎◌, List, sym, ap, ◌∙◌, subst, inl, inr, arith, Some, Option}
use Rattle.history.specs.declared.item.Item.{Item}
use Rattle.ledger.specs.declared.record.CommitRecord.{CommitRecord}
use Rattle.history.specs.Members.{◌∈◌}
use Rattle.serial.specs.Histories.{Access, took}
use Rattle.serial.proofs.Invariant.{Setting, World, Alive, Lives, Timed, Given, Inv, Source, Covering, Held, FromStart, FromUpdate, Owner, Tally, is_committed}

pub record Kept (u v : CommitRecord) : Type 0 where
  pub creation : v.creation ≡ u.creation
  pub expiry : v.expiry ≡ u.expiry
  pub standing : v.standing ≡ u.standing

-- records change in their tokens alone, clocks rise
pub record Kin {V : Type 0} (w w' : World V) : Type 0 where
  pub fore : (j : ℕ) (u : CommitRecord) → w.rec j ≡ Some u → (v : CommitRecord) × (w'.rec j ≡ Some v) × Kept u v
  pub back : (j : ℕ) (v : CommitRecord) → w'.rec j ≡ Some v → (u : CommitRecord) × (w.rec j ≡ Some u) × Kept u v
  pub up : (site : ℕ) → site < 16 → w.clk site ≤ w'.clk site
  pub top : (site : ℕ) → site < 16 → w'.clk site ≤ 134217728
  pub more : (b : Access V) → b ∈ w.acc → b ∈ w'.acc
  pub same : (cr : ℕ) → w'.done cr ≡ w.done cr

pub record Shift {V : Type 0} (c : ℕ) (w w' : World V) : Type 0 where
  pub grows : (cr : ℕ) → w.done cr ≡ true → w'.done cr ≡ true
  pub alive : (cr : ℕ) → Given c w.clk cr → Alive w' cr → Alive w cr
  pub lives : (cr : ℕ) → Given c w.clk cr → Lives w' cr → Lives w cr
  pub more : (b : Access V) → b ∈ w.acc → b ∈ w'.acc

pub kin_shift : {V : Type 0} (c : ℕ) (w w' : World V) → Kin w w' → Shift c w w'
kin_shift {V} c w w' k = record {
  grows = λ cr e. k.same cr ∙ e;
  alive = λ cr g a. alive cr a;
  lives = λ cr g l. elim l [ inl e ↦ inl (sym (k.same cr) ∙ e) | inr a ↦ inr (alive cr a) ];
  more = k.more;
}
  where
    alive : (cr : ℕ) → Alive w' cr → Alive w cr
    alive cr a =
        let r = k.back a.0 a.1 a.2 in
        let u = r.0 in
        let q : w'.clk (a.1.creation % 16) ≡ w'.clk (u.creation % 16) = ap (λ (y : ℕ). w'.clk (y % 16)) r.2.creation in
        let up = k.up (u.creation % 16) (omega arith) in
        (a.0, u, r.1, sym r.2.creation ∙ a.3, (sym r.2.standing ∙ a.4.0, omega (arith, a.4.1, r.2.expiry)))

pub given_up : (c : ℕ) (κ κ' : ℕ → ℕ) (cr : ℕ) → κ (cr % 16) ≤ κ' (cr % 16) → Given c κ cr → Given c κ' cr
given_up c κ κ' cr le g = (g.0, omega (arith, g.1))

pub timed_up : {V : Type 0} (c : ℕ) (κ κ' : ℕ → ℕ) (a : Access V) → κ (a.creation % 16) ≤ κ' (a.creation % 16) → Timed c κ a → Timed c κ' a
timed_up c κ κ' a le t = record { from = t.from; old = omega (arith, t.old); names = t.names; before = omega (arith, t.before) }

module _ {V : Type 0} (σ : Setting V) where
  open σ use {form, parse, c, n, initial, last}

  pub given_of : (w : World V) → Inv σ w → (a : Access V) → a ∈ w.acc → Given c w.clk a.creation
  given_of w inv a i = let t = inv.timed a i in (t.from, t.old)

  pub source_move : (w w' : World V) → Inv σ w → Shift c w w' → (a : Access V) (v : V) → a ∈ w.acc
      → (s : Source σ w a v)
      → (Covering σ w a s.at → Covering σ w' a s.at ⊎ ((s.at / 4294967296 ≡ a.creation) × (Alive w' a.creation → ⊥)))
      → ((b : Access V) (u : V) → b ∈ w'.acc → b.effect ≡ took u → b.object ≡ a.object → (Lives w' b.creation) ⊎ (b.creation ≡ a.creation) → (b ∈ w.acc) ⊎ ((b.time ≤ s.at) ⊎ (a.time < b.time)))
      → Source σ w' a v
  source_move w w' inv sh a v i s cover fewer = record {
    at = s.at;
    whence = elim s.whence [
      | inl p ↦ inl p
      | inr q ↦ inr (record {
        update = q.update;
        made = sh.more q.update q.made;
        updates = q.updates;
        object = q.object;
        time = q.time;
        below = q.below;
        visible = elim q.visible [ inl e ↦ inl e | inr e ↦ inr (sh.grows q.update.creation e) ];
      })
    ];
    still = elim s.still [ inl k ↦ cover k | inr d ↦ inr (d.0, λ al. d.1 (sh.alive a.creation (given_of w inv a i) al)) ];
    apart = λ b u ib e o l. elim (fewer b u ib e o l) [
      | inl j ↦ s.apart b u j e o (elim l [ inl x ↦ inl (sh.lives b.creation (given_of w inv b j) x) | inr x ↦ inr x ])
      | inr r ↦ r
    ];
  }

  -- what kin keep
  pub kin_clocks : (w w' : World V) → Inv σ w → Kin w w' → (site : ℕ) → site < 16 → c ≤ w'.clk site
  kin_clocks w w' inv k site lt = let a = inv.clocks_from site lt in let b = k.up site lt in omega arith

  pub kin_given : (w w' : World V) → Kin w w' → (cr : ℕ) → Given c w.clk cr → Given c w'.clk cr
  kin_given w w' k cr g = given_up c w.clk w'.clk cr (k.up (cr % 16) (omega arith)) g

  pub kin_timed : (w w' : World V) → Inv σ w → Kin w w' → (a : Access V) → a ∈ w.acc → Timed c w'.clk a
  kin_timed w w' inv k a i = timed_up c w.clk w'.clk a (k.up (a.creation % 16) (omega arith)) (inv.timed a i)

  pub kin_com_old : (w w' : World V) → Inv σ w → Kin w w' → (cr : ℕ) → w'.done cr ≡ true → Given c w'.clk cr
  kin_com_old w w' inv k cr e = kin_given w w' k cr (inv.com_old cr (sym (k.same cr) ∙ e))

  pub kin_used_old : (w w' : World V) → Inv σ w → Kin w w' → (i : ℕ) (u : CommitRecord) → w'.rec i ≡ Some u → Given c w'.clk u.creation
  kin_used_old w w' inv k i u e = let r = k.back i u e in kin_given w w' k u.creation (subst (λ y. Given c w.clk y) (sym r.2.creation) (inv.used_old i r.0 r.1))

  pub kin_used_one : (w w' : World V) → Inv σ w → Kin w w' → (i j : ℕ) (u v : CommitRecord) → w'.rec i ≡ Some u → w'.rec j ≡ Some v → u.creation ≡ v.creation → i ≡ j
  kin_used_one w w' inv k i j u v e f s = let r = k.back i u e in let q = k.back j v f in inv.used_one i j r.0 q.0 r.1 q.1 (sym r.2.creation ∙ s ∙ q.2.creation)

  pub kin_used_com : (w w' : World V) → Inv σ w → Kin w w' → (i : ℕ) (u : CommitRecord) → w'.rec i ≡ Some u → w'.done u.creation ≡ is_committed u.standing
  kin_used_com w w' inv k i u e = let r = k.back i u e in
      k.same u.creation ∙ ap (λ (y : ℕ). w.done y) r.2.creation ∙ inv.used_com i r.0 r.1 ∙ ap is_committed (sym r.2.standing)

  pub kin_owner : (w w' : World V) → Kin w w' → (b : Access V) (x x' : Item) → x'.mark ≡ x.mark → Owner σ w b x → Owner σ w' b x'
  kin_owner w w' k b x x' e ow = let r = k.fore ow.place ow.its ow.used in
      record { place = ow.place; its = r.0; marked = e ∙ ow.marked; used = r.1; same = r.2.creation ∙ ow.same }

  -- a token is from an update, after the start
  pub token_late : (w : World V) → Inv σ w → (o : ℕ) (x : Item) → x ∈ w.chain o → 1 ≤ x.mark → c * 68719476736 ≤ x.start
  token_late w inv o x i m = elim (inv.items o x i) [
    | inl s ↦ absurd (omega (arith, s.version))
    | inr u ↦ (let t = inv.timed u.update u.made in omega (arith, u.time, t.from, t.names))
  ]

  -- an item's origin goes over
  pub from_move : (w w' : World V) → (grows : (cr : ℕ) → w.done cr ≡ true → w'.done cr ≡ true) → (more : (b : Access V) → b ∈ w.acc → b ∈ w'.acc)
      → (o : ℕ) (x x' : Item) → x'.start ≡ x.start → x'.number ≡ x.number
      → ((b : Access V) → b ∈ w.acc → b.time ≡ x.start → ((x.mark ≡ 0) × (w.done b.creation ≡ true)) ⊎ Owner σ w b x → ((x'.mark ≡ 0) × (w'.done b.creation ≡ true)) ⊎ Owner σ w' b x')
      → FromUpdate σ w o x → FromUpdate σ w' o x'
  from_move w w' grows more o x x' es en st f = record {
    update = f.update;
    value = f.value;
    made = more f.update f.made;
    updates = f.updates;
    object = f.object;
    time = f.time ∙ sym es;
    number = en ∙ f.number;
    standing = st f.update f.made f.time f.standing;
  }

  -- chains, tokens and clocks change, and no access is new
  pub record Change (w : World V) (chain' : ℕ → List Item) (rec' : ℕ → Option CommitRecord) (clk' : ℕ → ℕ) : Type 0 where
    pub kin : Kin w (record { acc = w.acc; done = w.done; chain = chain'; rec = rec'; clk = clk' })
    pub back : (o : ℕ) (x' : Item) → x' ∈ chain' o → (x : Item) × (x ∈ w.chain o) × (x'.start ≡ x.start) × (x'.number ≡ x.number)
        × ((x'.mark ≡ x.mark) ⊎ ((x'.mark ≡ 0) × (w.done (x.start / 4294967296) ≡ true)))
    pub fore : (o : ℕ) (x : Item) → x ∈ w.chain o →
        ((x' : Item) × (x' ∈ chain' o) × (x'.start ≡ x.start) × (x'.number ≡ x.number) × (x.«end» ≤ x'.«end»))
        ⊎ ((1 ≤ x.mark) × (Lives w (x.start / 4294967296) → ⊥))
    pub tally : (i : ℕ) (u : CommitRecord) → rec' i ≡ Some u → Tally σ (record { acc = w.acc; done = w.done; chain = chain'; rec = rec'; clk = clk' }) i u.tokens

  module _ (w : World V) (chain' : ℕ → List Item) (rec' : ℕ → Option CommitRecord) (clk' : ℕ → ℕ) (inv : Inv σ w) (ch : Change w chain' rec' clk') where
    abbrev pub changed : World V
    changed = record { acc = w.acc; done = w.done; chain = chain'; rec = rec'; clk = clk' }

    sh : Shift c w changed
    sh = kin_shift c w changed ch.kin

    change_held : (o start number : ℕ) → Held σ w o start number → ((x : Item) → x ∈ w.chain o → x.start ≡ start → (1 ≤ x.mark) × (Lives w (x.start / 4294967296) → ⊥) → ⊥)
        → Held σ changed o start number
    change_held o start number hd alive = elim (ch.fore o hd.item hd.inside) [
      | inl r ↦ record { item = r.0; inside = r.1; starts = r.2 ∙ hd.starts; has = r.3 ∙ hd.has }
      | inr d ↦ absurd (alive hd.item hd.inside hd.starts d)
    ]

    change_items : (o : ℕ) (x' : Item) → x' ∈ chain' o → FromStart σ o x' ⊎ FromUpdate σ changed o x'
    change_items o x' i =
        let r = ch.back o x' i in
        let x = r.0 in
        elim (inv.items o x r.1) [
          | inl s ↦ inl (record { version = elim r.4 [ inl e ↦ e ∙ s.version | inr e ↦ e.0 ]; by = omega (arith, r.2, s.by); found = λ e. r.3 ∙ s.found (sym r.2 ∙ e); known = s.known })
          | inr u ↦ inr (from_move w changed sh.grows sh.more o x x' r.2 r.3 (λ b ib tb st. elim r.4 [
            | inl e ↦ elim st [ inl p ↦ inl (e ∙ p.0, p.1) | inr ow ↦ inr (kin_owner w changed ch.kin b x x' e ow) ]
            | inr e ↦ inl (e.0, (let nm = (inv.timed b ib).names in let q : x.start / 4294967296 ≡ b.creation = omega (arith, tb) in subst (λ y. w.done y ≡ true) q e.1))
          ]) u)
        ]

    change_cover : (a : Access V) (v : V) → a ∈ w.acc → (s : Source σ w a v) → Covering σ w a s.at
        → Covering σ changed a s.at ⊎ ((s.at / 4294967296 ≡ a.creation) × (Alive changed a.creation → ⊥))
    change_cover a v ia s k = elim (ch.fore a.object k.item k.inside) [
      | inl r ↦ inl (record { item = r.0; inside = r.1; starts = r.2 ∙ k.starts; reaches = omega (arith, r.4, k.reaches) })
      | inr d ↦ elim s.whence [
        | inl p ↦ absurd (let late = token_late w inv a.object k.item k.inside d.0 in omega (arith, k.starts, p.1))
        | inr q ↦
            let nm = (inv.timed q.update q.made).names in
            let cr : k.item.start / 4294967296 ≡ q.update.creation = omega (arith, k.starts, q.time) in
            elim q.visible [
              | inl e ↦ inr (omega (arith, k.starts, e), λ al. d.1 (subst (λ y. Lives w y) (sym (cr ∙ e)) (inr (sh.alive a.creation (given_of w inv a ia) al))))
              | inr e ↦ absurd (d.1 (subst (λ y. Lives w y) (sym cr) (inl e)))
            ]
      ]
    ]

    pub change : Inv σ changed
    change = record {
      clocks_from = kin_clocks w changed inv ch.kin;
      clocks_to = ch.kin.top;
      timed = kin_timed w changed inv ch.kin;
      falls = inv.falls;
      com_old = kin_com_old w changed inv ch.kin;
      used_old = kin_used_old w changed inv ch.kin;
      used_one = kin_used_one w changed inv ch.kin;
      used_com = kin_used_com w changed inv ch.kin;
      items = change_items;
      kept = λ a v i e l.
          let l' = sh.lives a.creation (given_of w inv a i) l in
          change_held a.object a.time (form v) (inv.kept a v i e l')
          (λ x ix es d. d.1 (let nm = (inv.timed a i).names in let q : x.start / 4294967296 ≡ a.creation = omega arith in subst (λ y. Lives w y) (sym q) l'));
      kept_first = λ o lt. change_held o (last o) (initial o) (inv.kept_first o lt)
          (λ x ix es d. let late = token_late w inv o x ix d.0 in let early = inv.last_early o lt in omega arith);
      last_early = inv.last_early;
      tally = ch.tally;
      reads = λ a v i e. let s = inv.reads a v i e in
          source_move w changed inv sh a v i s (change_cover a v i s) (λ b u ib eb ob l. inl ib);
    }
