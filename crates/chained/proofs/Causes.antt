-- What turns an operation down, told from the items of the records that were found.
use Rattle.std.proofs.Common.{◌≡◌, ℕ, ◌+◌, ◌^◌, ◌<◌, ◌≤◌, false, not, ◌&&◌, ◌||◌, eqb, ltb, leb, List, map, length, Some, None, sym, ap, ◌∙◌, ⊎_elim, arith}
use Rattle.std.proofs.lemmas.Bool.{cases_eq, eq-eqb, ne_eqb, eqb-false, le-leb, lt-leb, or_from, not-false, cond-true, cond-false}
use Rattle.history.specs.declared.item.Item.{Item}
use Rattle.history.specs.declared.item.Cause.TheVariants.{OutOfRange, NoItem, Overlap, IsVersion, NoRoom}
use Rattle.history.specs.Chain.{some_item, covers, starts_within, is_version, Ascends}
use Rattle.history.specs.Meaning.{cause_of, either, too_large, no_start, version_at}
use Rattle.history.specs.Meaning.Op.{Find, Extend, Put, Seal, Drop}
use Rattle.history.proofs.Chains.{lawful_ascends}
use Rattle.history.proofs.Laws.{first_stays}
use Rattle.history.proofs.Outcomes.{either_none, drop_needs}
use Rattle.layout.specs.Layout.{free_in, item_at, path, items}
use Rattle.chained.specs.Edits.{record_by}
use Rattle.chained.specs.Means.{meaning, served}
use Rattle.layout.proofs.Runs.{step_path, end_path}
use Rattle.chained.specs.Served.{Serves, serves, cause_at}
use Rattle.layout.proofs.Parts.{parts}
use Rattle.chained.proofs.Seeks.{start_tells, within_tells, covers_tells, version_tells}
use Rattle.chained.proofs.Stands.{accepted_in}
use Rattle.chained.proofs.Openings as at

-- a pseudo-time in range, of an object of the store
pub record Sought (bs : List ℕ) (o p : ℕ) : Type 0 where
  pub object : o < served bs
  pub early : too_large p ≡ false

pub sought : (bs : List ℕ) (o p : ℕ) → cause_of (meaning bs) o (Find p) ≡ None → Sought bs o p
sought bs o p c = let q = accepted_in bs o (Find p) c in record { object = q.0; early = (either_none (too_large p) OutOfRange None q.1).0 }

pub find_late : (bs : List ℕ) (o p : ℕ) → o < served bs → 2 ^ 63 ≤ p → cause_of (meaning bs) o (Find p) ≡ Some OutOfRange
find_late bs o p l h = cause_at bs o (Find p) l ∙ cond-true (too_large p) _ _ (le-leb (2 ^ 63) p h)

pub find_clear : (bs : List ℕ) (o p : ℕ) → o < served bs → p < 2 ^ 63 → cause_of (meaning bs) o (Find p) ≡ None
find_clear bs o p l h = cause_at bs o (Find p) l ∙ cond-false (too_large p) _ _ (lt-leb (2 ^ 63) p h)

module _ (bs : List ℕ) (o s : ℕ) (x : Item) (c : cause_of (meaning bs) o (Find s) ≡ None) (e : x ≡ item_at bs (record_by bs o s)) where
  here : Sought bs o s
  here = sought bs o s c

  v : Serves bs o
  v = serves bs o here.object

  asc : Ascends (items bs (o + 1))
  asc = lawful_ascends (items bs (o + 1)) (at.lawful bs o v)

  -- no item starts at s
  absent : no_start s (items bs (o + 1)) ≡ not (eqb x.start s)
  absent = ap not (start_tells (items bs (o + 1)) asc s (item_at bs (record_by bs o s)) (at.found bs o v s)) ∙ ap (λ (i : Item). not (eqb i.start s)) (sym e)

  pub seal_cause : cause_of (meaning bs) o (Seal s) ≡ either (not (eqb x.start s)) NoItem None
  seal_cause = cause_at bs o (Seal s) here.object ∙ cond-false (too_large s) _ _ here.early ∙ ap (λ b. either b NoItem None) absent

  pub extend_cause : (p : ℕ) (y : Item) → cause_of (meaning bs) o (Find p) ≡ None → y ≡ item_at bs (record_by bs o p) → cause_of (meaning bs) o (Extend s p) ≡ either (not (eqb x.start s)) NoItem (either (ltb s y.start) Overlap None)
  extend_cause p y d f =
      cause_at bs o (Extend s p) here.object
      ∙ cond-false (too_large s || too_large p) _ _ (or_from _ _ here.early (sought bs o p d).early)
      ∙ ap (λ b. either b NoItem (either (some_item (starts_within s p) (items bs (o + 1))) Overlap None)) absent
      ∙ ap (λ b. either (not (eqb x.start s)) NoItem (either b Overlap None))
      (within_tells (items bs (o + 1)) asc p (item_at bs (record_by bs o p)) (at.found bs o v p) s ∙ ap (λ (i : Item). ltb s i.start) (sym f))

  pub put_cause : (mark n : ℕ) → cause_of (meaning bs) o (Put s mark n) ≡ either (ltb 64 mark) OutOfRange (either (leb s x.«end») Overlap (either (eqb (free_in bs) 0) NoRoom None))
  unfolding meaning
  put_cause mark n =
      cause_at bs o (Put s mark n) here.object
      ∙ ap (λ b. either (b || ltb 64 mark) OutOfRange (either (some_item (covers s) (items bs (o + 1))) Overlap (either (eqb (length (path bs (free_in bs))) 0) NoRoom None))) here.early
      ∙ ap (λ b. either (ltb 64 mark) OutOfRange (either b Overlap (either (eqb (length (path bs (free_in bs))) 0) NoRoom None)))
      (covers_tells (items bs (o + 1)) asc s (item_at bs (record_by bs o s)) (at.found bs o v s) ∙ ap (λ (i : Item). leb s i.«end») (sym e))
      ∙ ap (λ b. either (ltb 64 mark) OutOfRange (either (leb s x.«end») Overlap (either b NoRoom None))) full
    where
      full : eqb (length (path bs (free_in bs))) 0 ≡ eqb (free_in bs) 0
      full =
          ⊎_elim
          (λ z. eq-eqb _ _ (ap length (end_path bs (free_in bs) z)) ∙ sym (eq-eqb _ _ z))
          (λ z. ne_eqb _ _ (λ q. omega (arith, ap length (step_path bs (free_in bs) (parts bs v.lawful).threads.spare (omega arith)).0)) ∙ sym (ne_eqb _ _ z))
          (cases_eq (free_in bs) 0)

-- where the item at s may be sealed
module _ (bs : List ℕ) (o s : ℕ) (x : Item) (c : cause_of (meaning bs) o (Seal s) ≡ None) (e : x ≡ item_at bs (record_by bs o s)) where
  sealable : (o < served bs) × (too_large s ≡ false) × (no_start s (items bs (o + 1)) ≡ false)
  sealable =
      let q = accepted_in bs o (Seal s) c in
      let r = either_none (too_large s) _ _ q.1 in
      (q.0, r.0, (either_none (no_start s (items bs (o + 1))) _ _ r.1).0)

  pub drop_cause : cause_of (meaning bs) o (Drop s) ≡ either (is_version x) IsVersion None
  drop_cause =
      let w = serves bs o sealable.0 in
      let xs = items bs (o + 1) in
      let a = lawful_ascends xs (at.lawful bs o w) in
      let k = item_at bs (record_by bs o s) in
      let there = sym (start_tells xs a s k (at.found bs o w s)) ∙ not-false _ sealable.2 in
      cause_at bs o (Drop s) sealable.0
      ∙ cond-false (too_large s) _ _ sealable.1
      ∙ cond-false (no_start s xs) _ _ sealable.2
      ∙ ap (λ b. either b IsVersion None)
      (version_tells xs a s k (at.found bs o w s) ∙ ap (λ b. b && is_version k) there ∙ ap is_version (sym e))

-- a token does not start at 0
pub drop_late : (bs : List ℕ) (o s : ℕ) → cause_of (meaning bs) o (Drop s) ≡ None → 0 < s
drop_late bs o s c =
    let q = accepted_in bs o (Drop s) c in
    let w = serves bs o q.0 in
    let need = drop_needs (items bs (o + 1)) (length (path bs (free_in bs))) s q.1 in
    let stays = first_stays s (item_at bs (o + 1)) _ (at.first bs o w) (ap (λ ns. version_at s (map (item_at bs) ns)) (sym (at.chain bs o w)) ∙ need.token) in
    omega (arith, (at.first bs o w).0, eqb-false (item_at bs (o + 1)).start s stays)
