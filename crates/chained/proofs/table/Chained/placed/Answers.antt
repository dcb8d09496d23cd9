use Rattle.std.proofs.Common.{sym, ◌∙◌}
use Rattle.std.proofs.lemmas.Bool.{cond-true, cond-false, eq-eqb, ne_eqb, le-leb, lt-leb, le-ltb}
use Rattle.chained.proofs.Causes.{put_cause}
use Rattle.chained.proofs.table.Chained.placed.Goals as goal

pub returns-then-previous-time : goal.returns-then-previous-time
returns-then-previous-time c =
    let p = c.in_ok-previous.ensures in
    put_cause c.args.self.now.table.bytes.now c.args.object c.args.time c.in_ok-previous.previous.item p.0 p.1.item c.args.mark c.args.number
    ∙ cond-false _ _ _ (le-ltb _ _ c.if-mark-gt-LAST_MARK.false)
    ∙ cond-true _ _ _ (le-leb _ _ c.if-previous-time.true)

pub returns-then-at-eq0 : goal.returns-then-at-eq0
returns-then-at-eq0 c =
    let p = c.in_ok-previous.ensures in
    put_cause c.args.self.now.table.bytes.now c.args.object c.args.time c.in_ok-previous.previous.item p.0 p.1.item c.args.mark c.args.number
    ∙ cond-false _ _ _ (le-ltb _ _ c.if-mark-gt-LAST_MARK.false)
    ∙ cond-false _ _ _ (lt-leb _ _ c.if-previous-time.false)
    ∙ cond-true _ _ _ (eq-eqb _ _ (sym c.free_in-at.ensures ∙ c.if-at-eq0.true))

pub returns : goal.returns
returns c =
    let p = c.in_ok-previous.ensures in (
      put_cause c.args.self.now.table.bytes.now c.args.object c.args.time c.in_ok-previous.previous.item p.0 p.1.item c.args.mark c.args.number
          ∙ cond-false _ _ _ (le-ltb _ _ c.if-mark-gt-LAST_MARK.false)
          ∙ cond-false _ _ _ (lt-leb _ _ c.if-previous-time.false)
          ∙ cond-false _ _ _ (ne_eqb _ _ (λ e. c.if-at-eq0.false (c.free_in-at.ensures ∙ e))),
      record { previous = p.1.at; at = c.free_in-at.ensures },
    )
