-- What an operation leaves of what bytes mean.
use Rattle.std.proofs.Common.{◌≡◌, ℕ, ◌+◌, ◌-◌, ◌^◌, ◌<◌, ltb, List, Some, None, Ok, Err, Result, sym, refl, ap, ◌∙◌, subst, ⊎_elim, arith}
use Rattle.std.proofs.lemmas.Bool.{cases_Bool, lt-ltb, le-ltb}
use Rattle.history.specs.declared.item.Item.{Item}
use Rattle.history.specs.declared.item.Cause.{Cause}
use Rattle.history.specs.declared.item.Fault.{Fault}
use Rattle.history.specs.Chain.{fresh_item}
use Rattle.history.specs.Meaning.{Op, Outcome, FindAnswer, Rooms, answered, given, cause_of, cause_in, written, bottom_fault}
use Rattle.history.specs.Meaning.Op.{Find, At, Extend, Put, Seal, Drop}
use Rattle.history.proofs.Outcomes.{accepted_answer, accepted_outcome, refused_answer, refused_outcome, put_needs}
use Rattle.layout.specs.Layout.{free_in, items, lawful}
use Rattle.chained.specs.Edits.{link, unlink, record_by, chained_writes}
use Rattle.layout.specs.Edits.{with_end, with_mark}
use Rattle.chained.specs.Means.{meaning, served, Reopens}
use Rattle.chained.specs.declared.plans.Place.{Place}
use Rattle.chained.specs.declared.plans.Stretch.{Stretch}
use Rattle.chained.specs.declared.plans.Link.{Link}
use Rattle.std.specs.Result.{IsErrAnd}
use Rattle.chained.specs.Plans.{Planned, Told, IsPlace, IsStretch, IsLink}
use Rattle.chained.specs.Laws.{Fitting, Spells, room_after}
use Rattle.chained.specs.Served.{serves, objects_are, served_lawful, served_unlawful}
use Rattle.layout.proofs.Parts.{header_parts, parts}
use Rattle.chained.proofs.Stands.{accepted_in, writes_stand_lem}

-- the rooms, by the free records
rooms_of : (xs : List Item) (op : Op) (o : ℕ) (r t : ℕ → ℕ) → ((k : ℕ) → t k ≡ room_after op (r k)) → cause_in xs (r o) op ≡ None → Rooms op o r t
rooms_of xs (Find p) o r t h c = h
rooms_of xs At o r t h c = h
rooms_of xs (Extend s p) o r t h c = h
rooms_of xs (Put p mark n) o r t h c = (omega (arith, h o, (put_needs xs (r o) p mark n c).room_left), λ k. (omega (arith, h k), omega (arith, h k)))
rooms_of xs (Seal s) o r t h c = h
rooms_of xs (Drop s) o r t h c = (omega (arith, h o), λ k. omega (arith, h k))

written_is : (bs : List ℕ) (o : ℕ) (op : Op) → chained_writes bs o op ≡ written (meaning bs) o op
unfolding meaning chained_writes
written_is bs o (Find p) = refl
written_is bs o At = refl
written_is bs o (Extend s p) = refl
written_is bs o (Put p mark n) = refl
written_is bs o (Seal s) = refl
written_is bs o (Drop s) = refl

-- an accepted operation
pub record Done (bs : List ℕ) (o : ℕ) (op : Op) (cs : List ℕ) : Type 0 where
  pub served : served bs ≡ served cs
  pub answer : ◌≡◌ {A = Result (Unit {0}) Fault} (Ok tt) (answered (meaning bs) o op tt)
  pub after : Outcome (meaning bs) o op (meaning cs)

pub done : (bs cs : List ℕ) (o : ℕ) (op : Op) → cause_of (meaning bs) o op ≡ None → Fitting op → cs ≡ chained_writes bs o op → Done bs o op cs
unfolding meaning
done bs cs o op c f e =
    let q = accepted_in bs o op c in
    let v = serves bs o q.0 in
    let s : Spells bs o op cs = subst (Spells bs o op) (sym e) (writes_stand_lem bs o op v.lawful c f) in
    record {
      served = served_lawful bs v.lawful ∙ sym (served_lawful cs s.lawful ∙ s.objects);
      answer = accepted_answer (meaning bs) o op tt c;
      after =
          accepted_outcome (meaning bs) (meaning cs) o op c
          (record { chains = s.chains; rooms = rooms_of (items bs (o + 1)) op o (meaning bs).room (meaning cs).room s.rooms q.1; image = e ∙ written_is bs o op; writes = refl });
    }

pub extended : (bs cs : List ℕ) (o s p : ℕ) (k : Stretch) → (cause_of (meaning bs) o (Extend s p) ≡ None) × IsStretch bs o s p k → cs ≡ with_end bs k.at k.«end» → Done bs o (Extend s p) cs
unfolding chained_writes
extended bs cs o s p k q w = let f = q.1.at in let g = q.1.«end» in done bs cs o (Extend s p) q.0 tt (cc)

pub put_done : (bs cs : List ℕ) (o p mark n : ℕ) (k : Link) → n < 2 ^ 64 → (cause_of (meaning bs) o (Put p mark n) ≡ None) × IsLink (record_by bs o p) (free_in bs) k → cs ≡ link bs k.previous k.at (fresh_item p mark n) → Done bs o (Put p mark n) cs
unfolding chained_writes
put_done bs cs o p mark n k l q w = let f = q.1.previous in let g = q.1.at in done bs cs o (Put p mark n) q.0 l (cc)

pub sealed : (bs cs : List ℕ) (o s : ℕ) (k : Place) → (cause_of (meaning bs) o (Seal s) ≡ None) × IsPlace bs o s k → cs ≡ with_mark bs k.at 0 → Done bs o (Seal s) cs
unfolding chained_writes
sealed bs cs o s k q w = let f = q.1.at in done bs cs o (Seal s) q.0 tt (cc)

pub dropped : (bs cs : List ℕ) (o s : ℕ) (k : Link) → (cause_of (meaning bs) o (Drop s) ≡ None) × IsLink (record_by bs o (s - 1)) (record_by bs o s) k → cs ≡ unlink bs k.previous k.at → Done bs o (Drop s) cs
unfolding chained_writes
dropped bs cs o s k q w = let f = q.1.previous in let g = q.1.at in done bs cs o (Drop s) q.0 tt (cc)

-- and one that is turned down, with the answer r
pub record Refused {A : Type 0} (bs : List ℕ) (o : ℕ) (op : Op) (a : A) (r : Result A Fault) : Type 0 where
  pub answer : r ≡ answered (meaning bs) o op a
  pub after : Outcome (meaning bs) o op (meaning bs)

pub refused : {A : Type 0} (bs : List ℕ) (o : ℕ) (op : Op) (a : A) (c : Cause) (r : Result A Fault) → cause_of (meaning bs) o op ≡ Some c → r ≡ Err (bottom_fault c o (given op)) → Refused bs o op a r
unfolding meaning
refused bs o op a c r e f = record { answer = f ∙ refused_answer (meaning bs) o op a c e; after = refused_outcome (meaning bs) o op c e }

-- the same by a plan and its fault
pub planned : {A : Type 0} (bs : List ℕ) (o : ℕ) (op : Op) (P : A → Type 0) (q : A) (r : Result A Cause) (s : Result A Fault) → Planned bs o op P r → Told r o (given op) s → s ≡ Ok q → (cause_of (meaning bs) o op ≡ None) × P q
planned bs o op P q (Ok x) s h t e = let f : x ≡ q = cc in (h.0, subst P f h.1)
planned bs o op P q (Err c) s h t e = let z : ◌≡◌ {A = ℕ} 0 1 = cc in absurd (omega arith)

pub turned_down : {A B : Type 0} (bs : List ℕ) (o : ℕ) (op : Op) (P : A → Type 0) (a : B) (f : Fault) (r : Result A Cause) (s : Result A Fault) (u : Result B Fault) → Planned bs o op P r → Told r o (given op) s → s ≡ Err f → IsErrAnd u (λ g. g ≡ f) → Refused bs o op a u
turned_down bs o op P a f (Ok x) s u h t e w = let z : ◌≡◌ {A = ℕ} 0 1 = cc in absurd (omega arith)
turned_down bs o op P a f (Err c) s (Ok y) h t e w = absurd w
turned_down bs o op P a f (Err c) s (Err g) h t e w = refused bs o op a c (Err g) h (cc)

pub not_found : {A : Type 0} (bs : List ℕ) (o p : ℕ) (P : A → Type 0) (f : Fault) (r : Result A Cause) (s : Result A Fault) (u : Result Item Fault) → Planned bs o (Find p) P r → Told r o p s → s ≡ Err f → IsErrAnd u (λ g. g ≡ f) → FindAnswer (meaning bs) o p u
unfolding meaning
not_found bs o p P f (Ok x) s u h t e w = let z : ◌≡◌ {A = ℕ} 0 1 = cc in absurd (omega arith)
not_found bs o p P f (Err c) s (Ok y) h t e w = absurd w
not_found bs o p P f (Err c) s (Err g) h t e w = (c, h, cc)

pub reopens : (bs : List ℕ) → Reopens (meaning bs) bs
unfolding meaning
reopens bs = record { image = refl; lawful = some ∙ ap (ltb 0) (sym (objects_are bs)); means = refl }
  where
    some : lawful bs ≡ ltb 0 (served bs)
    some =
        ⊎_elim
        (λ t. t ∙ sym (lt-ltb 0 (served bs) (omega (arith, served_lawful bs t, (header_parts bs (parts bs t).header).size.some))))
        (λ t. t ∙ sym (le-ltb 0 (served bs) (omega (arith, served_unlawful bs t))))
        (cases_Bool (lawful bs))
