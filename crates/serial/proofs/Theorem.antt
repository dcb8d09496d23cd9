-- The serial law.
use Rattle.std.proofs.Common.{◌≡◌, ℕ, ◌<◌, true, false, ◌⊎◌, List, [], ◌∷◌, get_or, replicate, Some, None, Option, sym, refl, ap, ◌∙◌, subst, inl, inr, arith, eq-eqb}
use Rattle.std.proofs.lemmas.Bool.{cases_Bool, cases_lt, both_ways}
use Rattle.history.specs.declared.item.Item.{Item}
use Rattle.ledger.specs.declared.record.CommitRecord.{CommitRecord}
use Rattle.ledger.specs.declared.call.Call.{Call}
use Rattle.ledger.specs.declared.call.Call.TheVariants.{Begin, Read, Update, Commit, Abort, Glance, Tick, Settle, Standing as StandingCall}
use Rattle.register.specs.State.{State, Contents, contents}
use Rattle.history.specs.Members.{◌∈◌}
use Rattle.serial.proofs.Invariant.{Setting, World}
use Rattle.serial.proofs.Good.{Seen, seen, world_of, GoodAt}
use lib.ListN.{length-replicate, get_or-replicate, get_or-eq_default}
use Rattle.history.specs.Chain.{last_item, is_version}
use Rattle.history.specs.Meaning.{Meaning, Sound, chain_of, objects_of}
use Rattle.register.specs.Calls.{outcome, Step}
use Rattle.serial.specs.Histories.{Event, History, clock_after, accesses, has_committed, Fit, started, Reached, start, call}
use Rattle.serial.specs.SerialOrder.{SerialOrder, found_at, number_of, SerialLaw}
use Rattle.history.proofs.Chains.{lawful_sorted, sorted_one, lawful_span, lawful_last, Last, keep_all}
use Rattle.serial.proofs.Unfit.{Unfit, unfit_call, unfit_order}
use Rattle.serial.proofs.Law as law
use Rattle.serial.proofs.Short.{tick_good, standing_good, begin_good, commit_good, abort_good}
use Rattle.serial.proofs.Updates.{update_good}
use Rattle.serial.proofs.Settles.{settle_good}
use Rattle.serial.proofs.Looks.{read_good, glance_good}

pub last_start : Option Item → ℕ
last_start None = 0
last_start (Some x) = x.start

pub last_at : Meaning → ℕ → ℕ
last_at m o = last_start (last_item (chain_of m o))

abbrev pub setting : {V : Type 0} → (V → ℕ) → (ℕ → Option V) → ℕ → Meaning → Setting V
setting form parse c m = record { form = form; parse = parse; c = c; n = objects_of m; initial = found_at m; last = last_at m }

unused_used : (u : CommitRecord) → None ≡ Some u → ⊥
unused_used u e = let z : ◌≡◌ {A = ℕ} 0 1 = cc in omega arith

module _ {V : Type 0} (form : V → ℕ) (parse : ℕ → Option V) (c : ℕ) (m : Meaning) where
  abbrev pub Good : History V → Seen → Type 0
  Good h k = GoodAt (setting form parse c m) (clock_after c h) (accesses c h) (has_committed h) k

  abbrev first_world : World V
  first_world = world_of [] (λ _. false) (seen (contents (started true c m)))

  last_is_at : (o : ℕ) → o < objects_of m → Fit c m → (r : Last (chain_of m o)) → (last_at m o ≡ r.item.start) × (found_at m o ≡ r.item.number)
  unfolding last_at last_start
  last_is_at o lo fit r = (
    ap last_start r.is,
    ap (λ (l : List Item). number_of (last_item l)) (keep_all is_version (chain_of m o) (λ x i. eq-eqb x.mark 0 (fit.no_token o lo x i))) ∙ ap number_of r.is,
  )

  rec_unused : (i : ℕ) (u : CommitRecord) → get_or (replicate 64 None) i None ≡ Some u → ⊥
  rec_unused i u e = elim (cases_lt i 64) [
    | inl lt ↦ unused_used u (sym (get_or-replicate 64 i None None lt) ∙ e)
    | inr le ↦ unused_used u (sym (get_or-eq_default (replicate 64 None) None {n = i} le) ∙ e)
  ]

  inside : (o : ℕ) (x : Item) → x ∈ chain_of m o → o < objects_of m
  inside o x i = elim (cases_lt o (objects_of m)) [
    | inl lt ↦ lt
    | inr le ↦ absurd (nowhere x (subst (λ l. x ∈ l) (get_or-eq_default m.chains [] {n = o} le) i))
  ]
    where
      nowhere : (x : Item) → x ∈ [] → ⊥
      nowhere x i = elim i [ ]

  start_good : Sound m → Fit c m → Good [] (seen (contents (started true c m)))
  start_good sound fit = record {
    size_chains = refl;
    size_records = length-replicate {A = Option CommitRecord} 64 None;
    size_clocks = length-replicate 16 c;
    agree = λ site lt. get_or-replicate 16 site c 0 lt;
    inv = record {
      clocks_from = λ site lt. let q = get_or-replicate 16 site c 0 lt in omega arith;
      clocks_to = λ site lt. let q = get_or-replicate 16 site c 0 lt in omega (arith, fit.unspent);
      timed = λ a i. elim i [ ];
      falls = tt;
      com_old = λ cr e. absurd (both_ways true (sym e) refl);
      used_old = λ i u e. absurd (rec_unused i u e);
      used_one = λ i j u v e f s. absurd (rec_unused i u e);
      used_com = λ i u e. absurd (rec_unused i u e);
      items = λ o x i.
          let lo = inside o x i in
          let r = lawful_last (chain_of m o) (sound.lawful o lo) in
          let q = last_is_at o lo fit r in
          inl (record {
            version = fit.no_token o lo x i;
            by = (let k = r.greatest x i in omega (arith, q.0));
            found = λ e. ap (λ (y : Item). y.number) (sorted_one (chain_of m o) x r.item (lawful_sorted (chain_of m o) (sound.lawful o lo)) i r.inside (e ∙ q.0)) ∙ sym q.1;
            known = lo;
          });
      kept = λ a v i e l. elim i [ ];
      kept_first = λ o lo.
          let r = lawful_last (chain_of m o) (sound.lawful o lo) in
          let q = last_is_at o lo fit r in
          record { item = r.item; inside = r.inside; starts = sym q.0; has = sym q.1 };
      last_early = λ o lo.
          let r = lawful_last (chain_of m o) (sound.lawful o lo) in
          let q = last_is_at o lo fit r in
          let past = fit.past o lo r.item r.inside in
          let span = lawful_span (chain_of m o) r.item (sound.lawful o lo) r.inside in
          omega (arith, q.0);
      tally = λ i u e. absurd (rec_unused i u e);
      reads = λ a v i e. elim i [ ];
    };
  }

  module _ (reads-back : (v : V) → parse (form v) ≡ Some v) where
    one_call : (h : History V) (s : State) → Sound s.store → Good h (seen (contents s)) → (k : Call V) → Good (record { call = k; answer = (outcome form parse s k).answer } ∷ h) (seen (outcome form parse s k).after)
    one_call h s sound good (Begin r site lifetime) = begin_good (setting form parse c m) (clock_after c h) (accesses c h) (has_committed h) s good r site lifetime
    one_call h s sound good (Read t o) = read_good (setting form parse c m) reads-back (clock_after c h) (accesses c h) (has_committed h) s sound good t o
    one_call h s sound good (Update t o v) = update_good (setting form parse c m) (clock_after c h) (accesses c h) (has_committed h) s good t o v
    one_call h s sound good (Commit t) = commit_good (setting form parse c m) (clock_after c h) (accesses c h) (has_committed h) s good t
    one_call h s sound good (Abort t) = abort_good (setting form parse c m) (clock_after c h) (accesses c h) (has_committed h) s good t
    one_call h s sound good (Glance site o) = glance_good (setting form parse c m) reads-back (clock_after c h) (accesses c h) (has_committed h) s sound good site o
    one_call h s sound good (Tick site k) = tick_good (setting form parse c m) (clock_after c h) (accesses c h) (has_committed h) s good site k
    one_call h s sound good (Settle o) = settle_good (setting form parse c m) (clock_after c h) (accesses c h) (has_committed h) s sound good o
    one_call h s sound good (StandingCall r) = standing_good (setting form parse c m) (clock_after c h) (accesses c h) (has_committed h) s good r

    pub reached_sound : {h : History V} {s : State} → Reached form parse c m h s → Sound s.store
    reached_sound (start fit sound fits) = sound
    reached_sound (call r sound step) = sound

    good_call : (h : History V) (s t : State) (e : Event V) → Sound s.store → Good h (seen (contents s)) → Step form parse s e.call e.answer t → Good (e ∷ h) (seen (contents t))
    good_call h s t e sound good step =
        subst (λ (k : Contents). Good (e ∷ h) (seen k)) (sym step.leaves)
        (subst (λ a. Good (record { call = e.call; answer = a } ∷ h) (seen (outcome form parse s e.call).after)) (sym step.answers) (one_call h s sound good e.call))

    pub reached_good : {h : History V} {s : State} → Reached form parse c m h s → Good h (seen (contents s)) ⊎ Unfit form parse c m h s
    reached_good (start fit sound fits) = elim (cases_Bool fit) [
      | inl e ↦ inl (start_good sound (fits e))
      | inr e ↦ inr (record { unfit = e; same = refl; no_access = refl; no_commit = λ _. refl })
    ]
    reached_good (call {h = h} {s = s} {t = t} {e = e} r sound step) = elim (reached_good r) [
      | inl good ↦ inl (good_call h s t e (reached_sound r) good step)
      | inr u ↦ inr (unfit_call form parse c m h s t e u step)
    ]

  in_order : ((v : V) → parse (form v) ≡ Some v) → (h : History V) (s : State) → Sound s.store → Good h (seen (contents s)) → SerialOrder form parse c (found_at m) h s
  in_order reads-back h s sound good = record {
    reads_latest = law.reads_latest (setting form parse c m) h (λ o. get_or s.store.chains o []) (λ i. get_or s.records i None) (λ j. get_or s.clocks j 0) good.inv;
    runs_alike = law.runs_alike (setting form parse c m) h (λ o. get_or s.store.chains o []) (λ i. get_or s.records i None) (λ j. get_or s.clocks j 0) good.inv reads-back;
    ends_alike = λ t big o lo. law.ends_alike (setting form parse c m) h (λ o. get_or s.store.chains o []) (λ i. get_or s.records i None) (λ j. get_or s.clocks j 0) good.inv
        o (subst (λ k. o < k) good.size_chains lo) (lawful_sorted (chain_of s.store o) (sound.lawful o lo)) t big;
  }

  law_here : ((v : V) → parse (form v) ≡ Some v) → SerialLaw form parse c m
  law_here reads-back h s r = elim (reached_good reads-back r) [
    | inl good ↦ in_order reads-back h s (reached_sound reads-back r) good
    | inr u ↦ unfit_order form parse c m h s (reached_sound reads-back r) u
  ]

pub serial_law_lem : {V : Type 0} (form : V → ℕ) (parse : ℕ → Option V) → ((v : V) → parse (form v) ≡ Some v) → (c : ℕ) (m : Meaning) → SerialLaw form parse c m
serial_law_lem form parse reads-back c m = law_here form parse c m reads-back
