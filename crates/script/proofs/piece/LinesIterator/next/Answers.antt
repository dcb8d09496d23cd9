use Rattle.std.proofs.Common.{◌≡◌, ℕ, ◌+◌, ◌<◌, ◌≤◌, ◌⊎◌, inl, inr, List, length, drop, take, ◌∷◌, Some, None, Option, Bor, sym, ap, ◌∙◌, rules, arith}
use Rattle.std.specs.List.{slice_range}
use Rattle.std.specs.Option.{MatchOption, unwrap_or}
use Rattle.std.proofs.lemmas.List.{take_rest, drop-drop, drop_all, nil_from_length}
use Rattle.script.specs.Lines.{lines}
use Rattle.script.proofs.Cuts.{lines_cut}
use Rattle.script.proofs.piece.LinesIterator.next.Goals as goal

-- `rest.get(1..).unwrap_or(rest)`
behind_first : (rest : Bor (List ℕ)) (o : Option (Bor (List ℕ)))
    → MatchOption o ((length rest.now < 1) ⊎ (length rest.now < length rest.now)) (λ x. (1 ≤ length rest.now) × (length rest.now ≤ length rest.now) × (x.now ≡ slice_range rest.now 1 (length rest.now)) × (length x.now + 1 ≡ length rest.now))
    → (unwrap_or o rest).now ≡ drop 1 rest.now
behind_first rest None (inl short) = nil_from_length rest.now (omega arith) ∙ sym (drop_all 1 rest.now (omega arith))
behind_first rest None (inr less) = absurd (omega arith)
behind_first rest (Some x) found = found.2 ∙ take_rest rest.now 1

pub returns-clause-steps : goal.returns-clause-steps
returns-clause-steps c =
    let script = c.args.self.now.rest.now in
    let n = c.length_before.result in
    let some : 0 < length script = search rules in
    let behind : c.unwrap_or-self.result.now ≡ drop (n + 1) script =
    ap (λ (b : Bor (List ℕ)). b.now) c.unwrap_or-self.ensures ∙ behind_first c.split_at.result.1 c.get.result c.get.ensures.lookup.0
    ∙ ap (drop 1) c.split_at.ensures.back ∙ drop-drop 1 n script in
    let line : c.split_at.result.0.now ≡ take n script = c.split_at.ensures.front in
    lines_cut script some
    ∙ ap (λ k. take k script ∷ lines (drop (k + 1) script)) (sym c.length_before.ensures.value)
    ∙ ap (λ (l : List ℕ). take n script ∷ lines l) (sym behind)
    ∙ ap (λ (l : List ℕ). l ∷ lines c.unwrap_or-self.result.now) (sym line)
