use Rattle.std.proofs.Common.{ap, ◌∙◌, arith}
use Rattle.history.specs.Meaning.Op.{At}
use Rattle.layout.specs.Layout.{item_at, path}
use Rattle.chained.specs.Edits.{last_by}
use Rattle.chained.proofs.Causes.{find_late, find_clear}
use Rattle.chained.proofs.Stands.{accepted_in}
use Rattle.chained.proofs.table.Chained.place.Goals as goal

pub returns-then-time-ge-TIME_LIMIT : goal.returns-then-time-ge-TIME_LIMIT
returns-then-time-ge-TIME_LIMIT c =
    find_late c.args.self.now.table.bytes.now c.args.object c.args.time (accepted_in _ c.args.object At c.in_ok-first.ensures.0).0 (omega arith)

pub returns : goal.returns
returns c =
    let e = c.last_by-at.ensures ∙ ap (λ k. last_by c.args.self.now.table.bytes.now c.args.time 0 (path c.args.self.now.table.bytes.now k)) c.in_ok-first.ensures.1 in (
      find_clear c.args.self.now.table.bytes.now c.args.object c.args.time (accepted_in _ c.args.object At c.in_ok-first.ensures.0).0 (omega arith),
      record { at = e; item = c.item_at-item.ensures ∙ ap (item_at c.args.self.now.table.bytes.now) e },
    )
