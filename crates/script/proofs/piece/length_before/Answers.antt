use Rattle.std.proofs.Common.{◌≡◌, ℕ, ◌≤◌, eqb, ltb, length, cond, Some, None, Option, refl, ap, ◌∙◌, tests, rules, arith}
use Rattle.std.specs.Option.{unwrap_or}
use Rattle.std.proofs.lemmas.Bool.{cond_both, ltb-false}
use Rattle.std.proofs.lemmas.Iterator.{YieldsList-from_slice}
use Rattle.std.proofs.lemmas.Iterator.Search.{position_from_yields_List}
use Rattle.std.proofs.lemmas.List.Sums.{prefix_len-le-length}
use Rattle.script.specs.Format.{differs}
use Rattle.script.proofs.piece.length_before.Goals as goal

found_or : (n len : ℕ) → n ≤ len → unwrap_or (cond (ltb n len) (Some n) None) len ≡ n
found_or n len within = cond_both (ltb n len) (Some n) None (λ (o : Option ℕ). unwrap_or o len ≡ n) (λ _. refl) (λ past. omega (arith, ltb-false n len past))

pub returns-clause-value : goal.returns-clause-value
returns-clause-value c =
    let bytes = c.args.bytes.now in
    let found = position_from_yields_List (λ b. eqb b c.args.separator) _ _ c.position.result c.position.ensures.ran (YieldsList-from_slice bytes cc) (λ x b q k. search (rules, tests)) in
    c.unwrap_or.ensures ∙ ap (λ o. unwrap_or o (length bytes)) found ∙ found_or _ (length bytes) (prefix_len-le-length (differs c.args.separator) bytes)
