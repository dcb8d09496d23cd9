-- An object's chain, and the record of it that a pseudo-time tells.
use Rattle.std.proofs.Common.{◌≡◌, ℕ, ◌+◌, ◌-◌, ◌*◌, ◌<◌, ◌≤◌, List, ◌∷◌, map, length, Some, sym, ap, ◌∙◌, subst, arith}
use Rattle.std.proofs.lemmas.Bool.{le-leb, cond-true}
use Rattle.history.specs.declared.item.Item.{Item}
use Rattle.history.specs.Chain.{starts_by, find_in, fresh_item, Lawful}
use Rattle.history.proofs.Chains.{Sorted, lawful_sorted}
use Rattle.layout.specs.Layout.{records_in, free_in, item_at, next_at, path, items}
use Rattle.chained.specs.Edits.{last_by, record_by}
use Rattle.layout.proofs.Runs.{Run, run_ends, step_path, end_path}
use Rattle.layout.proofs.Histories.{history_parts}
use Rattle.chained.specs.Served.{Serves}
use Rattle.layout.proofs.Parts.{parts}
use Rattle.chained.proofs.Seeks.{found_last}
use Rattle.chained.proofs.Splits.{Slot, slot, Cut, cut}
use Rattle.chained.proofs.Moves.{through}

pub record Free (bs : List ℕ) : Type 0 where
  pub pos : 0 < free_in bs
  pub most : free_in bs ≤ records_in bs
  pub fits : 32 * free_in bs + 32 ≤ length bs
  pub chain : path bs (free_in bs) ≡ free_in bs ∷ path bs (next_at bs (free_in bs))
  pub run : Run bs (records_in bs) (next_at bs (free_in bs)) (path bs (next_at bs (free_in bs)))

module _ (bs : List ℕ) (o : ℕ) (v : Serves bs o) where
  pub lawful : Lawful (items bs (o + 1))
  lawful = history_parts (items bs (o + 1)) v.rules

  pub run : Run bs (records_in bs) (o + 1) (path bs (o + 1))
  run = run_ends bs (records_in bs) (records_in bs) (o + 1) v.whole

  -- the chain from its first record on
  pub later : List ℕ
  later = path bs (next_at bs (o + 1))

  pub chain : path bs (o + 1) ≡ (o + 1) ∷ later
  unfolding later
  chain = (step_path bs (o + 1) v.whole (omega arith)).0

  pub first : Lawful (map (item_at bs) ((o + 1) ∷ later))
  first = subst (λ ns. Lawful (map (item_at bs) ns)) chain lawful

  pub sorted : Sorted (items bs (o + 1))
  sorted = lawful_sorted (items bs (o + 1)) lawful

  pub by : (p : ℕ) → record_by bs o p ≡ last_by bs p (o + 1) later
  by p = ap (last_by bs p 0) chain ∙ cond-true (starts_by p (item_at bs (o + 1))) _ _ (le-leb (item_at bs (o + 1)).start p (omega (arith, first.0)))

  pub found : (p : ℕ) → find_in (items bs (o + 1)) p ≡ Some (item_at bs (record_by bs o p))
  found p =
      ap (λ ns. find_in (map (item_at bs) ns) p) chain
      ∙ found_last bs p (o + 1) later first.2 (omega (arith, first.0))
      ∙ ap (λ k. Some (item_at bs k)) (sym (by p))

  pub slotted : (new : Item) → Slot bs new (record_by bs o new.start) (path bs (o + 1))
  slotted new =
      subst (Slot bs new (record_by bs o new.start)) (sym chain)
      (subst (λ j. Slot bs new j ((o + 1) ∷ later)) (sym (by new.start)) (slot bs new (o + 1) later (omega (arith, first.0))))

  pub cut_at : (s : ℕ) → 0 < s → (item_at bs (record_by bs o s)).start ≡ s → Cut bs s (record_by bs o (s - 1)) (record_by bs o s) (path bs (o + 1))
  cut_at s l e =
      subst (Cut bs s (record_by bs o (s - 1)) (record_by bs o s)) (sym chain)
      (subst (λ i. Cut bs s i (record_by bs o s) ((o + 1) ∷ later)) (sym (by (s - 1)))
      (subst (λ i. Cut bs s (last_by bs (s - 1) (o + 1) later) i ((o + 1) ∷ later)) (sym (by s))
      (cut bs s (s - 1) (o + 1) later (omega arith) (subst (λ ns. Sorted (map (item_at bs) ns)) chain sorted) (omega (arith, first.0)) (ap (λ i. (item_at bs i).start) (sym (by s)) ∙ e))))

  -- it is one of the table
  pub placed : (p : ℕ) → (0 < record_by bs o p) × (record_by bs o p ≤ records_in bs) × (32 * record_by bs o p + 32 ≤ length bs)
  placed p =
      let s = slotted (fresh_item p 0 0) in
      let t = through bs (records_in bs) (o + 1) s.pre (record_by bs o p) s.post (subst (Run bs (records_in bs) (o + 1)) s.chain run) in
      (t.pos, t.most, omega (arith, t.most, v.header.size.long))

  -- the first free record, where there is one
  pub spare : (length (path bs (free_in bs)) ≡ 0 → ⊥) → Free bs
  spare n =
      let pos : 0 < free_in bs = (let nz : free_in bs ≡ 0 → ⊥ = λ e. n (ap length (end_path bs (free_in bs) e)) in omega arith) in
      let s = step_path bs (free_in bs) (parts bs v.lawful).threads.spare pos in
      record { pos = pos; most = s.2; fits = omega (arith, s.2, v.header.size.long); chain = s.0; run = run_ends bs (records_in bs) (records_in bs) (next_at bs (free_in bs)) s.1 }
