use Rattle.std.proofs.Common.{◌≡◌, ℕ, List, IfOk, vec_items, refl, ap, ◌∙◌, subst}
use Rattle.std.proofs.lemmas.Result.{IfOk-weaker}
use Rattle.history.specs.Meaning.{Meaning}
use Rattle.chained.specs.Means.{meaning}
use Rattle.playing.specs.Played.{Played}
use Rattle.playing.proofs.Runs.{played}
use Rattle.playing.proofs.play.play.Goals as goal

-- a chained store means what its bytes mean
in_bytes : (bs : List ℕ) → meaning bs ≡ meaning (meaning bs).image
unfolding meaning
in_bytes bs = refl

pub returns : goal.returns
returns c =
    let script = c.args.script.now in
    let m = meaning c.over.result.below.table.bytes.now in
    subst (λ (n : Meaning). IfOk c.run.result (λ v. Played meaning 1 n script (vec_items v)))
    (ap (λ s. meaning s.below.table.bytes.now) c.over.ensures ∙ ap meaning (c.new.ensures ∙ c.lay_out.ensures.bytes))
    (IfOk-weaker c.run.result _ (λ v. Played meaning 1 m script (vec_items v))
    (λ v runs. played (λ s. meaning s.below.table.bytes.now) meaning (λ s. in_bytes s.below.table.bytes.now) 1 m (c.serial_law.ensures 1 m)
    c.open-register.result c.run.new.register c.open-register.ensures.starts c.open-register.ensures.opens.reaches script (vec_items v) runs)
    c.run.ensures)
