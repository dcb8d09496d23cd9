use Rattle.std.proofs.Common.{◌∙◌}
use Rattle.std.proofs.lemmas.Bool.{cond-true, cond-false, eq-eqb, ne_eqb, not_from_true, not_from_false}
use Rattle.chained.proofs.Causes.{seal_cause}
use Rattle.chained.proofs.table.Chained.sealed.Goals as goal

pub returns-then-place-start : goal.returns-then-place-start
returns-then-place-start c =
    let p = c.in_ok-place.ensures in
    seal_cause c.args.self.now.table.bytes.now c.args.object c.args.start c.in_ok-place.place.item p.0 p.1.item ∙ cond-true _ _ _ (not_from_false _ (ne_eqb _ _ c.if-place-start.true))

pub returns : goal.returns
returns c =
    let p = c.in_ok-place.ensures in
    (seal_cause c.args.self.now.table.bytes.now c.args.object c.args.start c.in_ok-place.place.item p.0 p.1.item ∙ cond-false _ _ _ (not_from_true _ (eq-eqb _ _ c.if-place-start.false)), p.1)
