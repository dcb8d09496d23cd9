-- The invariant gives the law.
use Rattle.std.proofs.Common.{◌≡◌, ℕ, ◌/◌, ◌%◌, ◌<◌, ◌≤◌, true, ◌⊎◌, List, ◌∷◌, ◌++◌, Some, sym, ap, ◌∙◌, subst, inl, inr, arith, eq-eqb, eqb-true, Option}
use Rattle.std.proofs.lemmas.Bool.{cases_eq, or_left, or_right, or_cases}
use Rattle.history.specs.declared.item.Item.{Item}
use Rattle.ledger.specs.declared.record.CommitRecord.{CommitRecord}
use Rattle.history.specs.Members.{◌∈◌, here, there}
use Rattle.serial.specs.Histories.{History, Access, accesses, has_committed}
use Rattle.serial.specs.SerialOrder.{Counts, Latest, Untouched, ReadsLatest, RunsAlike, table_before}
use Rattle.history.specs.Chain.{keep, is_version}
use Rattle.serial.specs.SerialOrder.{stands_committed, last_committed}
use Rattle.history.proofs.Chains.{in_keep, of_keep, Sorted, keep_sorted, last_some}
use Rattle.history.proofs.Lists.{in_right}
use Rattle.serial.proofs.Table.{falling_right, in_older, run_none, run_last, table_none, table_last, Writes, Settled}
use Rattle.serial.proofs.Invariant.{Setting, World, Falling, Inv, Source, Held}

abbrev pub world : {V : Type 0} → ℕ → History V → (ℕ → List Item) → (ℕ → Option CommitRecord) → (ℕ → ℕ) → World V
world c h chain rec clk = record { acc = accesses c h; done = has_committed h; chain = chain; rec = rec; clk = clk }

module _ {V : Type 0} (σ : Setting V) (h : History V) (chain : ℕ → List Item) (rec : ℕ → Option CommitRecord) (clk : ℕ → ℕ) (inv : Inv σ (world σ.c h chain rec clk)) where
  open σ use {form, parse, c, n, initial, last}

  count_apart : (a b : Access V) (v u : V) (s : Source σ (world c h chain rec clk) a v) → Counts form parse c initial h a b u → b.time ≤ s.at
  count_apart a b v u s k =
      elim (s.apart b u k.made k.updates k.same_object (elim k.visible [ inl e ↦ inr e | inr e ↦ inl (inl e) ])) [
        | inl le ↦ le
        | inr lt ↦ absurd (let q = k.below in omega arith)
      ]

  pub reads_latest : ReadsLatest form parse c initial h
  reads_latest a v i e = go (inv.reads a v i e)
    where
      go : Source σ (world c h chain rec clk) a v → Latest form parse c initial h a v ⊎ Untouched form parse c initial h a v
      go s = elim s.whence [
        | inl p ↦ inr (record { none = λ b u k. let le = count_apart a b v u s k in let t = inv.timed b k.made in omega (arith, p.1); found = p.0 })
        | inr q ↦ inl (record {
          update = q.update;
          counts = record {
            made = q.made;
            updates = q.updates;
            same_object = q.object;
            below = omega arith;
            visible = q.visible;
          };
          greatest = λ b u k. let le = count_apart a b v u s k in omega (arith, q.time);
        })
      ]

  names_of : (a : Access V) → a ∈ accesses c h → a.time / 4294967296 ≡ a.creation
  names_of a i = (inv.timed a i).names

  pub runs_alike : ((v : V) → parse (form v) ≡ Some v) → RunsAlike form parse c initial h
  runs_alike reads-back later older a v is gives seen =
      let f : Falling (later ++ (a ∷ older)) = subst Falling is inv.falls in
      let into : (b : Access V) → b ∈ older → b ∈ accesses c h = λ b i. subst (λ l. b ∈ l) (sym is) (in_right later (there i)) in
      let out : (b : Access V) → b ∈ accesses c h → b.creation ≡ a.creation → b.time < a.time → b ∈ older =
      λ b i same lt. in_older later older a b f (subst (λ l. b ∈ l) is i) same lt in
      let tail = falling_right later (a ∷ older) f in
      let ia : a ∈ accesses c h = subst (λ l. a ∈ l) (sym is) (in_right later here) in
      elim (reads_latest a v ia gives) [
        | inl l ↦
            let b = l.update in
            let kb = l.counts in
            let own : (d : Access V) (u : V) → d ∈ older → Writes form parse c initial a.creation a.object d u → d.time ≤ b.time =
            λ d u i k. l.greatest d u (record { made = into d i; updates = k.updates; same_object = k.object; below = tail.0 d i k.action; visible = inl k.action }) in
            elim (cases_eq b.creation a.creation) [
              | inl e ↦ ap parse (run_last form parse c initial a.creation older _ a.object b v tail.1 (out b kb.made e kb.below) (record { updates = kb.updates; action = e; object = kb.same_object }) own) ∙ reads-back v
              | inr ne ↦
                  let nb = names_of b kb.made in
                  let na = names_of a ia in
                  let lt : b.creation < a.creation = omega (arith, kb.below) in
                  ap parse (run_none form parse c initial a.creation older _ a.object (λ d u i k. let le = own d u i k in omega (arith, names_of d (into d i), k.action))
                  ∙ table_last form parse c initial h names_of inv.falls a.object a.creation b v
                  (record { made = kb.made; updates = kb.updates; object = kb.same_object; commits = elim kb.visible [ inl e ↦ absurd (ne e) | inr e ↦ e ]; before = lt })
                  (λ d u k. l.greatest d u (record { made = k.made; updates = k.updates; same_object = k.object; below = omega (arith, k.before, names_of d k.made); visible = inr k.commits })))
                  ∙ reads-back v
            ]
        | inr u ↦
            let na = names_of a ia in
            ap parse (run_none form parse c initial a.creation older _ a.object
            (λ d w i k. u.none d w (record { made = into d i; updates = k.updates; same_object = k.object; below = tail.0 d i k.action; visible = inl k.action }))
            ∙ table_none form parse c initial h names_of inv.falls a.object a.creation
            (λ d w k. u.none d w (record { made = k.made; updates = k.updates; same_object = k.object; below = omega (arith, k.before, names_of d k.made); visible = inr k.commits })))
            ∙ u.found
      ]

  first_stands : (o : ℕ) → o < n → (f : Held σ (world c h chain rec clk) o (last o) (initial o)) → stands_committed form parse c initial h f.item ≡ true
  first_stands o lt f = elim (inv.items o f.item f.inside) [
    | inl s ↦ or_left (is_version f.item) _ (eq-eqb f.item.mark 0 s.version)
    | inr u ↦ absurd (let t = inv.timed u.update u.made in let e = inv.last_early o lt in omega (arith, u.time, f.starts))
  ]

  committed_stands : (o : ℕ) (t : ℕ) (d : Access V) (u : V) → Settled form parse c initial h names_of inv.falls o t d u
      → (x : Item) × (x ∈ keep (stands_committed form parse c initial h) (chain o)) × (x.start ≡ d.time)
  committed_stands o t d u k =
      let z = inv.kept d u k.made k.updates (inl k.commits) in
      let nm = names_of d k.made in
      let cr : z.item.start / 4294967296 ≡ d.creation = omega (arith, z.starts) in
      (z.item, in_keep (stands_committed form parse c initial h) z.item (chain o) (subst (λ y. z.item ∈ chain y) k.object z.inside) (or_right (is_version z.item) _ (subst (λ y. has_committed h y ≡ true) (sym cr) k.commits)), z.starts)

  pub ends_alike : (o : ℕ) → o < n → Sorted (chain o) → (t : ℕ) → 2147483648 ≤ t
      → (x : Item) × (last_committed form parse c initial h (chain o) ≡ Some x) × (x.number ≡ table_before form parse c initial h t o)
  ends_alike o lt s t big =
      let f = inv.kept_first o lt in
      let fin = in_keep (stands_committed form parse c initial h) f.item (chain o) f.inside (first_stands o lt f) in
      let r = last_some f.item (keep (stands_committed form parse c initial h) (chain o)) fin (keep_sorted (stands_committed form parse c initial h) (chain o) s) in
      let x = r.item in
      let q = of_keep (stands_committed form parse c initial h) x (chain o) r.inside in
      let low = r.greatest f.item fin in
      let early = inv.last_early o lt in
      let most : (d : Access V) (u : V) → Settled form parse c initial h names_of inv.falls o t d u → d.time ≤ x.start =
      λ d u k. let z = committed_stands o t d u k in let le = r.greatest z.0 z.1 in omega (arith, z.2) in (
        x,
        r.is,
        elim (inv.items o x q.0) [
          | inl st ↦
              let eq : x.start ≡ last o = omega (arith, st.by, f.starts) in
              st.found eq ∙ sym (table_none form parse c initial h names_of inv.falls o t (λ d u k. let le = most d u k in let td = inv.timed d k.made in omega arith))
          | inr up ↦
              let b = up.update in
              let tb = inv.timed b up.made in
              let cl = inv.clocks_to (b.creation % 16) (omega arith) in
              let cr : x.start / 4294967296 ≡ b.creation = omega (arith, up.time, tb.names) in
              let done : has_committed h b.creation ≡ true = elim up.standing [
                | inl p ↦ p.1
                | inr w ↦ elim (or_cases (is_version x) _ q.1) [ inl v ↦ absurd (let z = eqb-true x.mark 0 v in omega (arith, w.marked)) | inr v ↦ subst (λ y. has_committed h y ≡ true) cr v ]
              ] in
              up.number ∙ sym (table_last form parse c initial h names_of inv.falls o t b up.value
              (record { made = up.made; updates = up.updates; object = up.object; commits = done; before = omega (arith, tb.old, cl) })
              (λ d u k. let le = most d u k in omega (arith, up.time)))
        ],
      )
