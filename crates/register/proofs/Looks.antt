-- Reads and glances.
use Rattle.std.proofs.Common.{◌≡◌, ℕ, leb, [], ◌∷◌, length, get_or, set, Some, None, Ok, Err, Option, Result, sym, refl, ap, ◌∙◌, subst}
use Rattle.history.specs.declared.item.Item.{Item}
use Rattle.history.specs.declared.item.Cause.TheVariants.{NoObject, OutOfRange}
use Rattle.history.specs.Chain.{find_in, extend_in}
use Rattle.history.specs.Meaning.{Meaning, Outcome, either, too_large, cause_of, chain_of}
use Rattle.history.specs.Meaning.Op.{Find, Extend}
use Rattle.history.proofs.Outcomes.{find_leaves}
use Rattle.ledger.specs.declared.call.Answer.{Answer}
use Rattle.ledger.specs.declared.call.Answer.TheVariants.{Refused, Value}
use Rattle.ledger.specs.declared.refusal.Refusal.TheVariants.{NoForm}
use Rattle.ledger.specs.declared.call.Unread.{Unread}
use Rattle.ledger.specs.declared.call.Unread.TheVariants.{Wait as WaitRead, Refused as RefusedRead}
use Rattle.ledger.specs.Answers.{unread}
use Rattle.register.specs.State.{State, Contents, contents, image_after}
use Rattle.ledger.specs.Checks.{Ticket, glance_check}
use Rattle.register.specs.Calls.Met.{reads, waits}
use Rattle.register.specs.Calls.{Ends, Met, Meeting, meeting, meet, plainly, answer_read, answer_met, read_item, look, look_by, Outcome as CallOutcome}
use Rattle.ledger.specs.Records.{take_stamp}
use Rattle.register.specs.Settling.{Leaves}
use Rattle.register.specs.Meets.{Meets}
use Rattle.ledger.specs.Refusals.{left}
use Rattle.ledger.proofs.Checks.{left_none}
use Rattle.register.proofs.Leaves.{leaves_none, leaves_one, leaves_then, leaves_find, leaves_contents, rewritten, reimaged, chain_left}
use Rattle.register.proofs.Chains.{finds}

module _ {V : Type 0} (parse : ℕ → Option V) where
  ends_by : (out now : CallOutcome V) (s t : State) (a : Answer V) → out ≡ now → a ≡ now.answer → contents t ≡ now.after → t.fit ≡ s.fit → t.store.writes ≡ s.store.writes → Ends out s a t
  ends_by out now s t a e p q h w =
      subst (λ k. Ends k s a t) (sym e) (record { answers = p; leaves = q; keeps_fit = h; keeps_writes = w })

  pub read_nothing : (s : State) (o p site : ℕ) (x : Item) → parse x.number ≡ None
      → Ends (read_item parse s o p site x) s (Refused (NoForm x.number)) s
  read_nothing s o p site x e =
      ends_by _ _ s s _ (ap (λ k. answer_read parse s o p site (plainly s o x) x k) e) refl (leaves_contents (leaves_none s o) refl) refl refl

  pub read_value : (s t : State) (o p site : ℕ) (x : Item) (v : V) → parse x.number ≡ Some v → cause_of s.store o (Extend x.start p) ≡ None
      → glance_check s.clocks site ≡ None → Outcome s.store o (Extend x.start p) t.store
      → t.records ≡ s.records → t.clocks ≡ left (glance_check s.clocks site) (take_stamp s.clocks site) s.clocks → t.fit ≡ s.fit
      → Ends (read_item parse s o p site x) s (Value v) t
  read_value s t o p site x v e none ready h records clocks fit =
      let l = leaves_one s (record { fit = s.fit; store = t.store; records = t.records; clocks = s.clocks }) o (Extend x.start p) s.records none h refl records refl refl in
      ends_by _ _ s t _ (ap (λ k. answer_read parse s o p site (plainly s o x) x k) e) refl
      (ap (λ (k : Contents). record { chains = k.chains; image = k.image; records = k.records; clocks = t.clocks }) (leaves_contents l refl)
      ∙ ap (λ c. record { chains = set s.store.chains o (extend_in (chain_of s.store o) x.start p); image = image_after s.store o (Extend x.start p ∷ []); records = s.records; clocks = c }) (clocks ∙ left_none _ _ _ ready))
      fit l.writes

  -- a search of s begins with a find, which leaves the store at m
  module _ (s : State) (own : Option Ticket) (o p site : ℕ) (m : Meaning) (none : cause_of s.store o (Find p) ≡ None)
      (found : Outcome s.store o (Find p) m) where
    abbrev begun : State
    begun = record { fit = s.fit; store = m; records = s.records; clocks = s.clocks }

    same_chains : m.chains ≡ s.store.chains
    same_chains = find_leaves s.store m o p found

    pub passes_after : cause_of m o (Find p) ≡ None
    passes_after = ap (λ c. either (leb (length c) o) NoObject (either (too_large p) OutOfRange None)) same_chains ∙ none

    pub found_after : (x : Item) → find_in (chain_of s.store o) p ≡ Some x → find_in (chain_of m o) p ≡ Some x
    found_after x e = ap (λ c. find_in (get_or c o []) p) same_chains ∙ e

    same : meeting begun own o p ≡ meeting s own o p
    same = ap (λ c. meet (length (get_or c o [])) s.records s.clocks own (get_or c o []) p) same_chains

    shown : (met : Met) → met ≡ (meeting begun own o p).met → look parse s own o p site ≡ answer_met parse s o p site (meeting s own o p) met
    shown met e = ap (look_by parse s own o p site) none ∙ ap (λ k. answer_met parse s o p site (meeting s own o p) k) (sym (e ∙ ap (λ w. w.met) same))

    module _ (r : Result Item Unread) (t : State) (h : Meets begun own o p r t) where
      came : Leaves s o (meeting s own o p).chain (meeting s own o p).records (meeting s own o p).ops t
      came = subst (λ (w : Meeting). Leaves s o w.chain w.records w.ops t) same (leaves_then (leaves_find s begun o p found refl refl) h.leaves)

    pub looks_unread : (why : Unread) (t : State) → Meets begun own o p (Err why) t → Ends (look parse s own o p site) s (unread why) t
    looks_unread (WaitRead r) t h =
        let l = came (Err (WaitRead r)) t h in ends_by _ _ s t _ (shown (waits r) h.met) refl (leaves_contents l refl) l.fit l.writes
    looks_unread (RefusedRead why) t h = absurd h.met

    -- a read from t, where the search came to, is a read from s with what the search did before it
    read_there : (x : Item) (t : State) → Meets begun own o p (Ok x) t → (k : Option V)
        → answer_read parse t o p site (plainly t o x) x k ≡ answer_read parse s o p site (meeting s own o p) x k
    read_there x t h None =
        let l = came (Ok x) t h in
        let a = rewritten l (chain_of t.store o) in
        let b = ap (λ c. set s.store.chains o c) (chain_left l (finds s.store o p none).inside) in
        let i = l.image in
        let r = l.records in
        let c = l.clocks in
        cc
    read_there x t h (Some v) =
        let l = came (Ok x) t h in
        let a = rewritten l (extend_in (chain_of t.store o) x.start p) in
        let b = ap (λ c. set s.store.chains o (extend_in c x.start p)) (chain_left l (finds s.store o p none).inside) in
        let i = reimaged l (Extend x.start p ∷ []) in
        let r = l.records in
        let c = ap (λ c. take_stamp c site) l.clocks in
        cc

    pub looks_read : (x : Item) (t u : State) (a : Answer V) → Meets begun own o p (Ok x) t
        → Ends (read_item parse t o p site x) t a u → Ends (look parse s own o p site) s a u
    looks_read x t u a h e =
        let l = came (Ok x) t h in
        let k = shown (reads x) h.met ∙ sym (read_there x t h (parse x.number)) in
        ends_by _ _ s u a k e.answers e.leaves (e.keeps_fit ∙ l.fit) (e.keeps_writes ∙ l.writes)
