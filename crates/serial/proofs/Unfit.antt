-- A register that is not fit refuses every call, so its histories tell nothing.
use Rattle.std.proofs.Common.{◌≡◌, ℕ, Bool, true, false, ◌||◌, List, [], ◌∷◌, get_or, Option, sym, refl, ap, ◌∙◌, subst}
use Rattle.std.proofs.lemmas.Bool.{both_ways}
use Rattle.history.specs.declared.item.Item.{Item}
use Rattle.history.specs.Members.{◌∈◌, here}
use Rattle.history.specs.Chain.{keep, last_item, is_version}
use Rattle.history.specs.Meaning.{Meaning, Sound, chain_of}
use Rattle.history.proofs.Lists.{in_right}
use Rattle.history.proofs.Chains.{keep_same, lawful_version}
use Rattle.ledger.specs.declared.record.CommitRecord.{CommitRecord}
use Rattle.ledger.specs.declared.call.Call.{Call}
use Rattle.ledger.specs.declared.call.Call.TheVariants.{Begin, Read, Update, Commit, Abort, Glance, Tick, Settle, Standing}
use Rattle.ledger.specs.declared.call.Answer.TheVariants.{Refused}
use Rattle.ledger.specs.declared.refusal.Refusal.{Refusal}
use Rattle.ledger.specs.declared.refusal.Refusal.TheVariants.{NotFit}
use Rattle.register.specs.State.{State, Contents}
use Rattle.register.specs.Calls.{Outcome, refused, outcome, Step}
use Rattle.serial.specs.Histories.{Event, History, Deed, no_deed, deed, Access, accesses, accessed, clock_after, has_committed, commits}
use Rattle.serial.specs.SerialOrder.{SerialOrder, stands_committed, found_at, number_of}
use Rattle.serial.proofs.Invariant.{Falling}
use Rattle.serial.proofs.Table.{table_none}

nowhere : {A : Type 0} (x : A) → x ∈ [] → ⊥
nowhere x i = elim i [ ]

or_false : (b : Bool) → (b || false) ≡ b
or_false true = refl
or_false false = refl

refused_deed : {V : Type 0} (k : Call V) (why : Refusal) → deed k (Refused why) ≡ no_deed
refused_deed (Begin r site lifetime) why = refl
refused_deed (Read t o) why = refl
refused_deed (Update t o v) why = refl
refused_deed (Commit t) why = refl
refused_deed (Abort t) why = refl
refused_deed (Glance site o) why = refl
refused_deed (Tick site clock) why = refl
refused_deed (Settle o) why = refl
refused_deed (Standing r) why = refl

module _ {V : Type 0} (form : V → ℕ) (parse : ℕ → Option V) where
  refuses_all : (store : Meaning) (records : List (Option CommitRecord)) (clocks : List ℕ) (k : Call V)
      → outcome form parse (record { fit = false; store = store; records = records; clocks = clocks }) k ≡ refused (record { fit = false; store = store; records = records; clocks = clocks }) NotFit
  refuses_all store records clocks (Begin r site lifetime) = refl
  refuses_all store records clocks (Read t o) = refl
  refuses_all store records clocks (Update t o v) = refl
  refuses_all store records clocks (Commit t) = refl
  refuses_all store records clocks (Abort t) = refl
  refuses_all store records clocks (Glance site o) = refl
  refuses_all store records clocks (Tick site clock) = refl
  refuses_all store records clocks (Settle o) = refl
  refuses_all store records clocks (Standing r) = refl

  pub unfit_refuses : (s : State) → s.fit ≡ false → (k : Call V) → outcome form parse s k ≡ refused s NotFit
  unfit_refuses s e k =
      subst (λ (b : Bool). outcome form parse (record { fit = b; store = s.store; records = s.records; clocks = s.clocks }) k ≡ refused (record { fit = b; store = s.store; records = s.records; clocks = s.clocks }) NotFit)
      (sym e) (refuses_all s.store s.records s.clocks k)

  module _ (c : ℕ) (m : Meaning) where
    pub record Unfit (h : History V) (s : State) : Type 0 where
      pub unfit : s.fit ≡ false
      pub same : s.store.chains ≡ m.chains
      pub no_access : accesses c h ≡ []
      pub no_commit : (creation : ℕ) → has_committed h creation ≡ false

    pub unfit_call : (h : History V) (s t : State) (e : Event V) → Unfit h s → Step form parse s e.call e.answer t → Unfit (e ∷ h) t
    unfit_call h s t e u step =
        let out = unfit_refuses s u.unfit e.call in
        let none : deed e.call e.answer ≡ no_deed = ap (λ a. deed e.call a) (step.answers ∙ ap (λ (o : Outcome V). o.answer) out) ∙ refused_deed e.call NotFit in
        record {
          unfit = step.keeps_fit ∙ u.unfit;
          same = ap (λ (k : Contents). k.chains) (step.leaves ∙ ap (λ (o : Outcome V). o.after) out) ∙ u.same;
          no_access = ap (λ (d : Deed V). accessed (clock_after c h) d (accesses c h)) none ∙ u.no_access;
          no_commit = λ cr. ap (λ (d : Deed V). commits d cr || has_committed h cr) none ∙ u.no_commit cr;
        }

    module _ (h : History V) (s : State) (sound : Sound s.store) (u : Unfit h s) where
      no_access_in : (a : Access V) → a ∈ accesses c h → ⊥
      no_access_in a i = nowhere a (subst (λ (l : List (Access V)). a ∈ l) u.no_access i)

      pub unfit_order : SerialOrder form parse c (found_at m) h s
      unfit_order = record {
        reads_latest = λ a v i e. absurd (no_access_in a i);
        runs_alike = λ later older a v is e seen. absurd (no_access_in a (subst (λ (l : List (Access V)). a ∈ l) (sym is) (in_right later here)));
        ends_alike = λ t big o lo.
            let r = lawful_version (chain_of s.store o) (sound.lawful o lo) in
            let chain : chain_of s.store o ≡ chain_of m o = ap (λ (l : List (List Item)). get_or l o []) u.same in
            let found : found_at m o ≡ r.item.number = ap (λ (l : List Item). number_of (last_item (keep is_version l))) (sym chain) ∙ ap number_of r.is in (
              r.item,
              ap last_item (keep_same (stands_committed form parse c (found_at m) h) is_version (chain_of s.store o) (λ x. ap (λ b. is_version x || b) (u.no_commit _) ∙ or_false (is_version x))) ∙ r.is,
              sym found ∙ sym (table_none form parse c (found_at m) h (λ a i. absurd (no_access_in a i)) (subst Falling (sym u.no_access) tt) o t (λ b v k. both_ways _ (u.no_commit _) k.commits)),
            );
      }
