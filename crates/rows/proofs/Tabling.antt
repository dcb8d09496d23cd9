-- From what a row answers to what the store does.
use Rattle.std.proofs.Common.{◌≡◌, ℕ, zero, suc, ◌+◌, ◌-◌, ◌<◌, ◌≤◌, List, [], ◌∷◌, length, get_or, set, replicate, None, Ok, Err, Result, sym, refl, ap, ◌∙◌, subst, ⊎_elim, arith}
use Rattle.std.proofs.lemmas.List.{get_or-map, map-set, length-map, get_or-set_same, get_or-set_other, set-get_or}
use Rattle.std.proofs.lemmas.Bool.{cases_eq}
use Rattle.history.specs.declared.item.Item.{Item}
use Rattle.history.specs.declared.item.Cause.{Cause}
use Rattle.history.specs.Chain.{drop_in, put_in, fresh_item}
use Rattle.history.specs.Meaning.{Op, Outcome, Rooms, applied, written, cause_in, cause_of, chain_of, objects_of}
use Rattle.history.specs.Meaning.Op.{Find, At, Extend, Put, Seal, Drop}
use Rattle.history.proofs.Bounded.{each_short}
use Rattle.history.proofs.Members.{length_put, length_drop}
use Rattle.history.proofs.Outcomes.{refused_outcome, accepted_outcome, cause_within, put_needs, drop_needs}
use Rattle.rows.specs.declared.row.Row.{Row}
use Rattle.rows.specs.declared.table.Rows.{Rows}
use Rattle.rows.specs.Rowed.{row_chain, row_cause, RowChanged}
use Rattle.rows.specs.Tabled.{meaning, rows_means, chains_in}

unwritten : (chains : List (List Item)) (o : ℕ) (op : Op) → [] ≡ written (meaning chains) o op
unwritten chains o (Find p) = refl
unwritten chains o At = refl
unwritten chains o (Extend s p) = refl
unwritten chains o (Put p mark n) = refl
unwritten chains o (Seal s) = refl
unwritten chains o (Drop s) = refl

-- how the rooms move, where an object's chain becomes ys
module _ (chains : List (List Item)) (o : ℕ) (within : o < length chains) (ys : List Item) where
  -- every room, from the rooms of this object and of the others
  rooms_by : (P : ℕ → ℕ → Type 0) → P ((meaning chains).room o) (8 - length ys) → ((r : ℕ) → P r r) → (k : ℕ) → P ((meaning chains).room k) ((meaning (set chains o ys)).room k)
  rooms_by P here there k =
      ⊎_elim
      (λ e. subst (λ i. P ((meaning chains).room i) ((meaning (set chains o ys)).room i)) (sym e) (subst (λ (zs : List Item). P ((meaning chains).room o) (8 - length zs)) (sym (get_or-set_same chains o ys [] within)) here))
      (λ ne. subst (λ (zs : List Item). P ((meaning chains).room k) (8 - length zs)) (sym (get_or-set_other chains o k ys [] ne)) (there ((meaning chains).room k)))
      (cases_eq k o)

  here_is : (meaning (set chains o ys)).room o ≡ 8 - length ys
  here_is = ap (λ (zs : List Item). 8 - length zs) (get_or-set_same chains o ys [] within)

  -- the chain stays as long as it was
  rooms_still : length ys ≡ length (get_or chains o []) → (k : ℕ) → (meaning (set chains o ys)).room k ≡ (meaning chains).room k
  rooms_still same = rooms_by (λ r t. t ≡ r) (ap (λ i. 8 - i) same) (λ r. refl)

rooms : (chains : List (List Item)) (o : ℕ) (op : Op) → o < length chains → length (get_or chains o []) ≤ 8 → cause_in (get_or chains o []) ((meaning chains).room o) op ≡ None → Rooms op o (meaning chains).room (meaning (set chains o (applied (get_or chains o []) op))).room
rooms chains o (Find q) within short passes = rooms_still chains o within _ refl
rooms chains o At within short passes = rooms_still chains o within _ refl
rooms chains o (Extend st q) within short passes = rooms_still chains o within _ (length-map (get_or chains o []) _)
rooms chains o (Seal st) within short passes = rooms_still chains o within _ (length-map (get_or chains o []) _)
rooms chains o (Put q mark num) within short passes =
    let xs = get_or chains o [] in
    let ys = put_in xs (fresh_item q mark num) in
    let longer = length_put xs (fresh_item q mark num) in
    let left : (meaning chains).room o ≡ 0 → ⊥ = (put_needs xs ((meaning chains).room o) q mark num passes).room_left in
    let one : 8 - length ys + 1 ≡ (meaning chains).room o = taken ((meaning chains).room o) left (omega arith) in
    (ap (λ k. k + 1) (here_is chains o within ys) ∙ one, rooms_by chains o within ys (λ r t. (t ≤ r) × (r ≤ t + 1)) (omega arith, omega arith) (λ r. (omega arith, omega arith)))
  where
    taken : {t : ℕ} (r : ℕ) → (r ≡ 0 → ⊥) → t ≡ r - 1 → t + 1 ≡ r
    taken r nz e = omega arith
rooms chains o (Drop st) within short passes =
    let xs = get_or chains o [] in
    let shorter = length_drop xs st (drop_needs xs ((meaning chains).room o) st passes).there in
    (let here = here_is chains o within (drop_in xs st) in omega (arith, here, shorter, short), rooms_by chains o within (drop_in xs st) (λ r t. r ≤ t) (omega (arith, shorter, short)) (λ r. omega arith))

-- a row's change is the store's
pub changed : (s : Rows) (o k : ℕ) (op : Op) (d now : Row) (r : Result (Unit {0}) Cause) → o < 32 → k ≡ o → RowChanged (get_or s.rows k d) op r now → Outcome (rows_means s) o op (meaning (chains_in (set s.rows k now)))
changed s o k op d now r within at = by r
  where
    was : Row
    was = get_or s.rows k d

    chain : chain_of (rows_means s) o ≡ row_chain was
    chain = get_or-map row_chain s.rows o d [] (let m = s.many in omega arith) ∙ ap (λ (i : ℕ). row_chain (get_or s.rows i d)) (sym at)

    chains : (ys : List Item) → row_chain now ≡ ys → chains_in (set s.rows k now) ≡ set (chains_in s.rows) o ys
    chains ys e = map-set row_chain s.rows k now ∙ ap (λ (i : ℕ). set (chains_in s.rows) i (row_chain now)) at ∙ ap (set (chains_in s.rows) o) e

    there : o < objects_of (rows_means s)
    there = let m : objects_of (rows_means s) ≡ 32 = length-map s.rows row_chain ∙ s.many in omega arith

    cause : cause_of (rows_means s) o op ≡ row_cause was op
    cause = cause_within (rows_means s) o op there ∙ ap (λ (xs : List Item). cause_in xs (8 - length xs) op) chain

    by : (r : Result (Unit {0}) Cause) → RowChanged was op r now → Outcome (rows_means s) o op (meaning (chains_in (set s.rows k now)))
    by (Ok done) a =
        let becomes = chains (applied (chain_of (rows_means s) o) op) (a.1 ∙ ap (λ (xs : List Item). applied xs op) (sym chain)) in
        let passes = ap (λ (xs : List Item). cause_in xs (8 - length xs) op) chain ∙ a.0 in
        subst (λ (cs : List (List Item)). Outcome (rows_means s) o op (meaning cs)) (sym becomes) (accepted_outcome (rows_means s) (meaning (set (chains_in s.rows) o (applied (chain_of (rows_means s) o) op))) o op (cause ∙ a.0) (record {
          chains = refl;
          rooms = rooms (chains_in s.rows) o op there (each_short row_chain (λ r. r.short) s.rows o) passes;
          image = unwritten (chains_in s.rows) o op;
          writes = refl;
        }))
    by (Err c) a =
        let same = chains (chain_of (rows_means s) o) (a.1 ∙ sym chain) ∙ set-get_or (chains_in s.rows) o [] in
        subst (λ (cs : List (List Item)). Outcome (rows_means s) o op (meaning cs)) (sym same) (refused_outcome (rows_means s) o op c (cause ∙ a.0))

-- rows that are all alike
pub all_alike : (rows : List Row) (xs : List Item) (n : ℕ) → length rows ≡ n → ((i : ℕ) (e : Row) → i < n → row_chain (get_or rows i e) ≡ xs) → chains_in rows ≡ replicate n xs
all_alike [] xs zero long each = refl
all_alike [] xs (suc n) long each = absurd (omega arith)
all_alike (r ∷ rs) xs zero long each = absurd (omega arith)
all_alike (r ∷ rs) xs (suc n) long each =
    ap (λ (ys : List Item). ys ∷ chains_in rs) (each 0 r (omega arith)) ∙ ap (λ (ls : List (List Item)). xs ∷ ls) (all_alike rs xs n (omega arith) (λ i e h. each (suc i) e (omega arith)))
