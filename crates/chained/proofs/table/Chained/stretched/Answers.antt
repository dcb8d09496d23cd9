use Rattle.std.proofs.Common.{max, ap, ◌∙◌}
use Rattle.std.proofs.lemmas.Bool.{cond-true, cond-false, eq-eqb, ne_eqb, lt-ltb, le-ltb, not_from_true, not_from_false}
use Rattle.chained.proofs.Causes.{extend_cause}
use Rattle.chained.proofs.table.Chained.stretched.Goals as goal

pub returns-then-place-start : goal.returns-then-place-start
returns-then-place-start c =
    let p = c.in_ok-place.ensures in
    let l = c.in_ok-last.ensures in
    extend_cause c.args.self.now.table.bytes.now c.args.object c.args.start c.in_ok-place.place.item p.0 p.1.item c.args.time c.in_ok-last.last.item l.0 l.1.item
    ∙ cond-true _ _ _ (not_from_false _ (ne_eqb _ _ c.if-place-start.true))

pub returns-then-last-start : goal.returns-then-last-start
returns-then-last-start c =
    let p = c.in_ok-place.ensures in
    let l = c.in_ok-last.ensures in
    extend_cause c.args.self.now.table.bytes.now c.args.object c.args.start c.in_ok-place.place.item p.0 p.1.item c.args.time c.in_ok-last.last.item l.0 l.1.item
    ∙ cond-false _ _ _ (not_from_true _ (eq-eqb _ _ c.if-place-start.false))
    ∙ cond-true _ _ _ (lt-ltb _ _ c.if-last-start.true)

pub returns : goal.returns
returns c =
    let p = c.in_ok-place.ensures in
    let l = c.in_ok-last.ensures in (
      extend_cause c.args.self.now.table.bytes.now c.args.object c.args.start c.in_ok-place.place.item p.0 p.1.item c.args.time c.in_ok-last.last.item l.0 l.1.item
          ∙ cond-false _ _ _ (not_from_true _ (eq-eqb _ _ c.if-place-start.false))
          ∙ cond-false _ _ _ (le-ltb _ _ c.if-last-start.false),
      record { at = p.1.at; «end» = c.max.ensures ∙ ap (λ i. max i.«end» c.args.time) p.1.item },
    )
