-- The invariant at a state, and what the checks of a call tell.
use Rattle.std.proofs.Common.{◌≡◌, ℕ, suc, pred, ◌%◌, ◌<◌, ◌≤◌, Bool, true, false, cond, ◌||◌, eqb, ltb, leb, List, [], length, get_or, set, Some, None, Option, sym, refl, ap, ◌∙◌, subst, inl, inr, arith, get_or-set_other, get_or-set_same, ltb-false, eq-eqb, ne_eqb, eqb-true, leb-false}
use borrow.Author.Tests.{eqb-false}
use Rattle.std.proofs.lemmas.Bool.{cases_Bool, cases_eq, or_parts, cond-true, cond-false}
use Rattle.ledger.specs.declared.record.Standing.{Standing}
use Rattle.ledger.specs.declared.record.Standing.TheVariants.{Open, Committed, Aborted}
use Rattle.ledger.specs.declared.record.Event.TheVariants.{Expiry}
use Rattle.ledger.specs.declared.record.CommitRecord.{CommitRecord}
use Rattle.ledger.specs.declared.refusal.Refusal.{Refusal}
use Rattle.ledger.specs.declared.refusal.Refusal.TheVariants.{NoRecord}
use Rattle.history.specs.declared.item.Item.{Item}
use Rattle.register.specs.State.{State, Contents}
use Rattle.ledger.specs.Records.{clock_at, record_at, next, standing_of}
use Rattle.ledger.specs.Checks.{Ticket, standing_check, use_check, ticket_check, record_check}
use Rattle.register.specs.Calls.{Outcome, refused, guarded}
use Rattle.ledger.specs.Refusals.{first, when}
use Rattle.serial.specs.Histories.{Access, Deed, moved, accessed, commits}
use Rattle.serial.proofs.Invariant.{Setting, World, OpenAt, Inv}

-- what the order sees of a state's contents: not the bytes under the store
pub record Seen : Type 0 where
  pub chains : List (List Item)
  pub records : List (Option CommitRecord)
  pub clocks : List ℕ

abbrev pub seen : Contents → Seen
seen k = record { chains = k.chains; records = k.records; clocks = k.clocks }

abbrev pub world_of : {V : Type 0} → List (Access V) → (ℕ → Bool) → Seen → World V
world_of acc done k = record { acc = acc; done = done; chain = λ o. get_or k.chains o []; rec = λ i. get_or k.records i None; clk = λ j. get_or k.clocks j 0 }

module _ {V : Type 0} (σ : Setting V) where
  open σ use {form, parse, c, n, initial, last}

  pub record GoodAt (clock : ℕ → ℕ) (acc : List (Access V)) (done : ℕ → Bool) (k : Seen) : Type 0 where
    pub size_chains : length k.chains ≡ n
    pub size_records : length k.records ≡ 64
    pub size_clocks : length k.clocks ≡ 16
    pub agree : (site : ℕ) → site < 16 → get_or k.clocks site 0 ≡ clock site
    pub inv : Inv σ (world_of acc done k)

  -- after a deed
  abbrev pub After : (ℕ → ℕ) → List (Access V) → (ℕ → Bool) → Deed V → Seen → Type 0
  After clock acc done d k = GoodAt (λ site. moved d site (clock site)) (accessed clock d acc) (λ cr. commits d cr || done cr) k

-- refusals

some_none : {A : Type 0} (x : A) → ◌≡◌ {A = Option A} (Some x) None → ⊥
some_none x e = let z : ◌≡◌ {A = ℕ} 0 1 = cc in omega arith

pub unless : {V : Type 0} (k : Option Refusal) (s : State) (out : Outcome V) (P : Outcome V → Type 0)
    → ((why : Refusal) → P (refused s why)) → (k ≡ None → P out) → P (guarded s k out)
unless None s out P f g = g refl
unless (Some why) s out P f g = f why

pub first_none : (a b : Option Refusal) → first a b ≡ None → (a ≡ None) × (b ≡ None)
first_none None b e = (refl, e)
first_none (Some why) b e = absurd (some_none why e)

pub when_none : (b : Bool) (why : Refusal) → when b why ≡ None → b ≡ false
when_none true why e = absurd (some_none why e)
when_none false why e = refl

-- cases of what a function is applied to

pub by_option : {A B : Type 0} (k : Option A) (f : Option A → B) (P : B → Type 0) → (k ≡ None → P (f None)) → ((x : A) → k ≡ Some x → P (f (Some x))) → P (f k)
by_option None f P p q = p refl
by_option (Some x) f P p q = q x refl

pub by_fate : {A : Type 0} (w : Standing) (f : Standing → A) (P : A → Type 0) → (w ≡ Open → P (f Open)) → (w ≡ Committed → P (f Committed)) → (w ≡ Aborted → P (f Aborted)) → P (f w)
by_fate Open f P x y z = x refl
by_fate Committed f P x y z = y refl
by_fate Aborted f P x y z = z refl

-- a list with one element set

pub set_here : {A : Type 0} (l : List A) (i j : ℕ) (a d : A) → i < length l → j ≡ i → get_or (set l i a) j d ≡ a
set_here l i j a d lt e = subst (λ y. get_or (set l i a) y d ≡ a) (sym e) (get_or-set_same l i a d lt)

-- what an open ticket tells

pub record Ticketed (s : State) (t : Ticket) : Type 0 where
  pub its : CommitRecord
  pub marked : t.0 ≡ suc (pred t.0)
  pub in_range : pred t.0 < 64
  pub used : get_or s.records (pred t.0) None ≡ Some its
  pub same : its.creation ≡ t.1
  pub opens : OpenAt (λ j. get_or s.clocks j 0) its

open_is : (w : Standing) → standing_check w ≡ None → w ≡ Open
open_is Open q = refl
open_is Committed q = absurd (some_none _ q)
open_is Aborted q = absurd (some_none _ q)

pub aborted_open : Aborted ≡ Open → ⊥
aborted_open e = let z : ◌≡◌ {A = ℕ} 0 1 = cc in omega arith

committed_open : Committed ≡ Open → ⊥
committed_open e = let z : ◌≡◌ {A = ℕ} 0 1 = cc in omega arith

pub cond_same : {A : Type 0} (b : Bool) (x : A) → cond b x x ≡ x
cond_same true x = refl
cond_same false x = refl

pub standing_open : (clocks : List ℕ) (u : CommitRecord) → standing_of clocks u ≡ Open → OpenAt (λ j. get_or clocks j 0) u
standing_open clocks u e = go u.standing refl e
  where
    go : (w : Standing) → u.standing ≡ w → cond (leb u.expiry (clock_at clocks (u.creation % 16))) (next w Expiry) w ≡ Open → OpenAt (λ j. get_or clocks j 0) u
    go Open p q = elim (cases_Bool (leb u.expiry (clock_at clocks (u.creation % 16)))) [
      | inl b ↦ absurd (aborted_open (sym (cond-true (leb u.expiry (clock_at clocks (u.creation % 16))) Aborted Open b) ∙ q))
      | inr b ↦ (p, leb-false u.expiry (clock_at clocks (u.creation % 16)) b)
    ]
    go Committed p q = absurd (committed_open (sym (cond_same _ Committed) ∙ q))
    go Aborted p q = absurd (aborted_open (sym (cond_same _ Aborted) ∙ q))

pub ticketed : (s : State) (t : Ticket) → ticket_check s.records s.clocks t ≡ None → Ticketed s t
ticketed s t e =
    let b = first_none (record_check t.0) (use_check s.clocks t.1 (record_at s.records t.0)) e in
    let r = or_parts (eqb t.0 0) (ltb 64 t.0) (when_none (eqb t.0 0 || ltb 64 t.0) NoRecord b.0) in
    let nz = eqb-false t.0 0 r.0 in
    let le = ltb-false 64 t.0 r.1 in
    go (get_or s.records (pred t.0) None) refl (omega arith) (omega arith) b.1
  where
    go : (q : Option CommitRecord) → get_or s.records (pred t.0) None ≡ q → t.0 ≡ suc (pred t.0) → pred t.0 < 64 → use_check s.clocks t.1 q ≡ None → Ticketed s t
    go None p m l k = absurd (some_none _ k)
    go (Some u) p m l k = elim (cases_Bool (eqb u.creation t.1)) [
      | inl b ↦ record {
        its = u;
        marked = m;
        in_range = l;
        used = p;
        same = eqb-true u.creation t.1 b;
        opens = standing_open s.clocks u (open_is (standing_of s.clocks u) (sym (cond-true (eqb u.creation t.1) _ _ b) ∙ k));
      }
      | inr b ↦ absurd (some_none _ (sym (cond-false (eqb u.creation t.1) _ _ b) ∙ k))
    ]

-- clocks with one set

pub set_up : (l : List ℕ) (st x : ℕ) → st < length l → get_or l st 0 ≤ x → (site : ℕ) → get_or l site 0 ≤ get_or (set l st x) site 0
set_up l st x lt le site = elim (cases_eq site st) [
  | inl e ↦ (let q = set_here l st site x 0 lt e in let r : get_or l site 0 ≡ get_or l st 0 = ap (λ (y : ℕ). get_or l y 0) e in omega arith)
  | inr ne ↦ (let q = get_or-set_other l st site x 0 ne in omega arith)
]

pub set_top : (l : List ℕ) (st x top : ℕ) → st < length l → x ≤ top → (site : ℕ) → get_or l site 0 ≤ top → get_or (set l st x) site 0 ≤ top
set_top l st x top lt le site h = elim (cases_eq site st) [
  | inl e ↦ (let q = set_here l st site x 0 lt e in omega arith)
  | inr ne ↦ (let q = get_or-set_other l st site x 0 ne in omega arith)
]

pub set_agree : (l : List ℕ) (st x site m y : ℕ) → st < length l → get_or l site 0 ≡ m → (site ≡ st → x ≡ y) → get_or (set l st x) site 0 ≡ cond (eqb st site) y m
set_agree l st x site m y lt e f = elim (cases_eq site st) [
  | inl q ↦ set_here l st site x 0 lt q ∙ f q ∙ sym (cond-true (eqb st site) y m (eq-eqb st site (sym q)))
  | inr ne ↦ get_or-set_other l st site x 0 ne ∙ e ∙ sym (cond-false (eqb st site) y m (ne_eqb st site (λ q. ne (sym q))))
]
