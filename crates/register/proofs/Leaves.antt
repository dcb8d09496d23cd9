-- Operations on one object of a register, one after another.
use Rattle.std.proofs.Common.{◌≡◌, ℕ, ◌<◌, List, [], ◌∷◌, ◌++◌, length, get_or, set, Some, None, Option, sym, refl, ap, ◌∙◌, arith, length-set, get_or-set_same}
use Rattle.std.proofs.lemmas.List.{set-get_or, set-set}
use Rattle.history.specs.declared.item.Item.{Item}
use Rattle.history.specs.declared.item.Cause.{Cause}
use Rattle.history.specs.Meaning.{Meaning, Op, Outcome, applied, cause_of, chain_of, chains_by, image_by, objects_of, written}
use Rattle.history.specs.Meaning.Op.{Find}
use Rattle.history.proofs.Outcomes.{find_leaves}
use Rattle.ledger.specs.declared.record.CommitRecord.{CommitRecord}
use Rattle.register.specs.State.{State, contents, image_from, image_after}
use Rattle.register.specs.Settling.{Leaves}

pub image_then : (writes : List ℕ → ℕ → Op → List ℕ) (bs : List ℕ) (o : ℕ) (a b : List Op)
    → image_from writes bs o (a ++ b) ≡ image_from writes (image_from writes bs o a) o b
image_then writes bs o [] b = refl
image_then writes bs o (op ∷ a) b = image_then writes (writes bs o op) o a b

pub leaves_none : (s : State) (o : ℕ) → Leaves s o (chain_of s.store o) s.records [] s
leaves_none s o = record { chains = sym (set-get_or s.store.chains o []); image = refl; writes = refl; records = refl; clocks = refl; fit = refl }

pub leaves_contents : {s t : State} {o : ℕ} {c : List Item} {r : List (Option CommitRecord)} {ops : List Op} {clocks : List ℕ} → Leaves s o c r ops t → s.clocks ≡ clocks
    → contents t ≡ record { chains = set s.store.chains o c; image = image_after s.store o ops; records = r; clocks = clocks }
leaves_contents h e = let a = h.chains in let b = h.image in let c = h.records in let d = h.clocks in cc

-- what a later operation on the object leaves, told from before the earlier ones
module _ {s t : State} {o : ℕ} {c : List Item} {r : List (Option CommitRecord)} {ops : List Op} (h : Leaves s o c r ops t) where
  pub rewritten : (d : List Item) → set t.store.chains o d ≡ set s.store.chains o d
  rewritten d = ap (λ w. set w o d) h.chains ∙ set-set s.store.chains o c d

  pub reimaged : (b : List Op) → image_after t.store o b ≡ image_after s.store o (ops ++ b)
  reimaged b =
      ap (λ w. image_from w t.store.image o b) h.writes
      ∙ (ap (λ w. image_from s.store.writes w o b) h.image ∙ sym (image_then s.store.writes s.store.image o ops b))

  pub leaves_then : {u : State} {d : List Item} {q : List (Option CommitRecord)} {b : List Op} → Leaves t o d q b u → Leaves s o d q (ops ++ b) u
  leaves_then {u} {d} {q} {b} k = record {
    chains = k.chains ∙ rewritten d;
    image = k.image ∙ reimaged b;
    writes = k.writes ∙ h.writes;
    records = k.records;
    clocks = k.clocks ∙ h.clocks;
    fit = k.fit ∙ h.fit;
  }

-- the object's chain, and that it is there
module _ {s t : State} {o : ℕ} {c : List Item} {r : List (Option CommitRecord)} {ops : List Op} (h : Leaves s o c r ops t) (inside : o < objects_of s.store) where
  pub chain_left : chain_of t.store o ≡ c
  chain_left = ap (λ w. get_or w o []) h.chains ∙ get_or-set_same s.store.chains o c [] inside

  pub inside_left : o < objects_of t.store
  inside_left = let k : length t.store.chains ≡ length s.store.chains = ap length h.chains ∙ length-set _ _ _ in omega arith

-- an accepted operation
pub leaves_one : (s t : State) (o : ℕ) (op : Op) (r : List (Option CommitRecord)) → cause_of s.store o op ≡ None → Outcome s.store o op t.store
    → written s.store o op ≡ image_after s.store o (op ∷ []) → t.records ≡ r → t.clocks ≡ s.clocks → t.fit ≡ s.fit
    → Leaves s o (applied (chain_of s.store o) op) r (op ∷ []) t
leaves_one s t o op r e h w records clocks fit = record {
  chains = h.chains ∙ ap (chains_by s.store o op) e;
  image = h.image ∙ (ap (image_by s.store o op) e ∙ w);
  writes = h.writes;
  records = records;
  clocks = clocks;
  fit = fit;
}

-- a find, turned down or not
found_image : (m : Meaning) (o p : ℕ) (k : Option Cause) → image_by m o (Find p) k ≡ m.image
found_image m o p None = refl
found_image m o p (Some c) = refl

pub leaves_find : (s t : State) (o p : ℕ) → Outcome s.store o (Find p) t.store → t.clocks ≡ s.clocks → t.fit ≡ s.fit
    → Leaves s o (chain_of t.store o) t.records [] t
leaves_find s t o p h clocks fit =
    let e = find_leaves s.store t.store o p h in
    record {
      chains = sym (set-get_or t.store.chains o []) ∙ ap (λ w. set w o (chain_of t.store o)) e;
      image = h.image ∙ found_image s.store o p (cause_of s.store o (Find p));
      writes = h.writes;
      records = refl;
      clocks = clocks;
      fit = fit;
    }
