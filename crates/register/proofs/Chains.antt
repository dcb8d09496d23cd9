-- Items of a chain that a search or a walk comes to.
use Rattle.std.proofs.Common.{◌≡◌, ℕ, ◌^◌, ◌<◌, ◌≤◌, Bool, true, false, cond, ◌&&◌, eqb, ltb, leb, List, [], ◌∷◌, map, Some, None, refl, ap, ◌∙◌, ⊎_elim, arith}
use Rattle.std.proofs.lemmas.Bool.{both_ways, cases_Bool, eqb-true, eq-eqb, leb-true, le-ltb, and_left, and_right, leb-false}
use Rattle.std.proofs.lemmas.Bool.Decides.{nat_tests}
use Rattle.history.specs.declared.item.Item.{Item}
use Rattle.history.specs.Chain.{some_item, has_start, starts_within, is_version, find_in, seals, seal_in, Lawful}
use Rattle.history.specs.Meaning.{Meaning, Sound, chain_of, objects_of, cause_of, version_at}
use Rattle.history.specs.Meaning.Op.{Find, Extend, Seal, Drop}
use Rattle.history.specs.Members.{◌∈◌}
use Rattle.history.proofs.Chains.{lawful_ascends, lawful_sorted, ascends_spanned, sorted_one, find_is}
use Rattle.history.proofs.Members.{some_from, some_is}
use Rattle.history.proofs.Laws.{seals_start}
use Rattle.history.proofs.Outcomes.{either_none, cause_within, extend_passes, seal_passes, drop_passes}
use Rattle.ledger.specs.Checks.{record_check}
use Rattle.register.specs.Settling.{Held}

pub none_such : (t : Item → Bool) (xs : List Item) → ((z : Item) → z ∈ xs → t z ≡ false) → some_item t xs ≡ false
none_such t xs f =
    ⊎_elim (λ e. let r = some_is t xs e in absurd (both_ways (t r.0) (f r.0 r.1) r.2)) (λ e. e) (cases_Bool (some_item t xs))

pub some_map : (t : Item → Bool) (f : Item → Item) (xs : List Item) → ((x : Item) → t (f x) ≡ t x) → some_item t (map f xs) ≡ some_item t xs
some_map t f [] k = refl
some_map t f (x ∷ xs) k = ap (λ b. cond b true (some_item t (map f xs))) (k x) ∙ ap (λ b. cond (t x) true b) (some_map t f xs k)

-- a find that is not turned down
pub record Finds (m : Meaning) (o p : ℕ) : Type 0 where
  pub inside : o < objects_of m
  pub small : p < 2 ^ 63

pub finds : (m : Meaning) (o p : ℕ) → cause_of m o (Find p) ≡ None → Finds m o p
finds m o p e =
    let q = either_none (leb (objects_of m) o) _ _ e in
    record { inside = leb-false (objects_of m) o q.0; small = leb-false (2 ^ 63) p (either_none (leb (2 ^ 63) p) _ _ q.1).0 }

-- a token in a chain can be sealed and dropped
pub token_held : (m : Meaning) (o : ℕ) (x : Item) → Sound m → o < objects_of m → x ∈ chain_of m o → is_version x ≡ false → Held m o x
token_held m o x sound h i token =
    let xs = chain_of m o in
    let law = sound.lawful o h in
    let span = ascends_spanned xs x (lawful_ascends xs law) i in
    let small : x.start < 2 ^ 63 = omega (arith, span.0, span.1) in
    let has = some_from (has_start x.start) x xs i (eq-eqb x.start x.start refl) in
    let alone : version_at x.start xs ≡ false = none_such _ xs (λ z j. apart z (has_start x.start z) refl (λ e. sorted_one xs z x (lawful_sorted xs law) j i e)) in
    record {
      recorded = marked x.mark token span.2;
      seals = cause_within m o (Seal x.start) h ∙ seal_passes xs (m.room o) x.start small has;
      drops = cause_within m o (Drop x.start) h ∙ drop_passes xs (m.room o) x.start small has alone;
    }
  where
    marked : (m : ℕ) → eqb m 0 ≡ false → m ≤ 64 → record_check m ≡ None
    marked m e h = grind (arith, nat_tests)

    apart : (z : Item) (b : Bool) → has_start x.start z ≡ b → (z.start ≡ x.start → z ≡ x) → (b && is_version z) ≡ false
    apart z false q one = refl
    apart z true q one = ap is_version (one (eqb-true _ _ q)) ∙ token

-- an item that a search found can be extended to there, also once it is sealed

pub record Seen (xs : List Item) (p : ℕ) (x : Item) : Type 0 where
  pub by : x.start ≤ p
  pub has : some_item (has_start x.start) xs ≡ true
  pub clear : some_item (starts_within x.start p) xs ≡ false

pub seen : (xs : List Item) (p : ℕ) (x : Item) → Lawful xs → find_in xs p ≡ Some x → Seen xs p x
seen xs p x law found =
    let f = find_is xs p x (lawful_sorted xs law) found in
    record {
      by = f.1;
      has = some_from _ x xs f.0 (eq-eqb x.start x.start refl);
      clear = none_such _ xs (λ z i. apart z (leb z.start p) refl (f.2 z i));
    }
  where
    apart : (z : Item) (b : Bool) → leb z.start p ≡ b → (z.start ≤ p → z.start ≤ x.start) → starts_within x.start p z ≡ false
    apart z false q last = and_right _ _ q
    apart z true q last = and_left _ _ (le-ltb x.start z.start (last (leb-true _ _ q)))

pub seen_sealed : (xs : List Item) (p s : ℕ) (x : Item) → Seen xs p x → Seen (seal_in xs s) p x
seen_sealed xs p s x h = record {
  by = h.by;
  has = some_map _ (seals s) xs (λ z. ap (λ n. eqb n x.start) (seals_start s z)) ∙ h.has;
  clear = some_map _ (seals s) xs (λ z. ap (λ n. ltb x.start n && leb n p) (seals_start s z)) ∙ h.clear;
}

pub extendable : (m : Meaning) (o p : ℕ) (x : Item) → o < objects_of m → p < 2 ^ 63 → Seen (chain_of m o) p x → cause_of m o (Extend x.start p) ≡ None
extendable m o p x h small s =
    let early = s.by in
    let low : x.start < 2 ^ 63 = omega arith in
    cause_within m o (Extend x.start p) h ∙ extend_passes (chain_of m o) (m.room o) x.start p low small s.has s.clear
