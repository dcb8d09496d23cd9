-- A row under an operation that a check let pass.
use Rattle.std.proofs.Common.{◌≡◌, ℕ, ◌<◌, ◌≤◌, List, length, Some, None, Ok, Option, refl, sym, subst, ⊎_elim, arith}
use Rattle.std.proofs.lemmas.Bool.{cases_lt}
use Rattle.std.proofs.lemmas.List.{length-map}
use Rattle.history.specs.declared.item.Item.{Item}
use Rattle.history.specs.declared.item.Cause.{Cause}
use Rattle.history.specs.Chain.{Lawful, extends, seals, fresh_item}
use Rattle.history.specs.Meaning.{Op, applied}
use Rattle.history.specs.Meaning.Op.{Find, At, Extend, Put, Seal, Drop}
use Rattle.history.proofs.Outcomes.{put_needs, drop_needs}
use Rattle.history.proofs.Bounded.{lawful_from}
use Rattle.history.proofs.Finds.{histories_stand_lem}
use Rattle.history.proofs.Members.{length_put, length_drop}
use Rattle.rows.specs.declared.row.Row.{Row}
use Rattle.rows.specs.Rowed.{row_chain, row_room, row_verdict, verdict}

pub passed : (q : Option Cause) → Ok tt ≡ verdict q → q ≡ None
passed None e = refl
passed (Some c) e = let z : ◌≡◌ {A = ℕ} 0 1 = cc in absurd (omega arith)

room_left : (r : Row) (p mark n : ℕ) → Ok tt ≡ row_verdict r (Put p mark n) → length (row_chain r) < 8
room_left r p mark n e =
    let some = (put_needs (row_chain r) (row_room r) p mark n (passed _ e)).room_left in
    ⊎_elim (λ lt. lt) (λ ge. absurd (some (omega arith))) (cases_lt (length (row_chain r)) 8)

stays_short : (r : Row) (op : Op) → Ok tt ≡ row_verdict r op → length (applied (row_chain r) op) ≤ 8
stays_short r (Find p) e = r.short
stays_short r At e = r.short
stays_short r (Extend s p) e = let n = length-map (row_chain r) (extends s p) in omega (arith, r.short)
stays_short r (Put p mark num) e = let n = length_put (row_chain r) (fresh_item p mark num) in let left = room_left r p mark num e in omega arith
stays_short r (Seal s) e = let n = length-map (row_chain r) (seals s) in omega (arith, r.short)
stays_short r (Drop s) e =
    let n = length_drop (row_chain r) s (drop_needs (row_chain r) (row_room r) s (passed _ e)).there in omega (arith, r.short)

-- the rules of rows, at what an operation left
pub record Kept (ys : List Item) : Type 0 where
  pub short : length ys ≤ 8
  pub lawful : ∥ Lawful ys ∥₁

pub kept : (r : Row) (op : Op) (ys : List Item) → Ok tt ≡ row_verdict r op → ys ≡ applied (row_chain r) op → Kept ys
kept r op ys e is = record {
  short = subst (λ zs. length zs ≤ 8) (sym is) (stays_short r op e);
  lawful = ∣ subst Lawful (sym is) (histories_stand_lem (row_chain r) _ op (lawful_from (row_chain r) r.lawful) (passed _ e)).lawful ∣₁;
}
