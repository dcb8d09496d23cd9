use Rattle.std.proofs.Common.{sym, ◌∙◌}
use Rattle.std.proofs.lemmas.Bool.{cond-true, cond-false}
use Rattle.chained.proofs.Causes.{drop_cause, drop_late}
use Rattle.chained.proofs.table.Chained.dropped.Goals as goal

pub returns-then-is_version : goal.returns-then-is_version
returns-then-is_version c =
    let p = c.in_ok-place.ensures in
    drop_cause c.args.self.now.table.bytes.now c.args.object c.args.start c.in_ok-place.place.item p.0 p.1.item ∙ cond-true _ _ _ (sym c.is_version.ensures ∙ c.if-is_version.true)

pub overflow_sub-start : goal.overflow_sub-start
overflow_sub-start c =
    let p = c.in_ok-place.ensures in
    drop_late c.args.self.now.table.bytes.now c.args.object c.args.start (drop_cause c.args.self.now.table.bytes.now c.args.object c.args.start c.in_ok-place.place.item p.0 p.1.item ∙ cond-false _ _ _ (sym c.is_version.ensures ∙ c.if-is_version.false))

pub returns : goal.returns
returns c =
    let p = c.in_ok-place.ensures in (
      drop_cause c.args.self.now.table.bytes.now c.args.object c.args.start c.in_ok-place.place.item p.0 p.1.item ∙ cond-false _ _ _ (sym c.is_version.ensures ∙ c.if-is_version.false),
      record { previous = c.in_ok-previous.ensures.1.at; at = p.1.at },
    )
