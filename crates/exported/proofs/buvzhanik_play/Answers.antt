use Rattle.std.proofs.Common.{◌-◌, min, ◌++◌, length, take, drop, vec_items, sym, ap, ◌∙◌, inl}
use native.Mathlib.Nat.{sub-zero}
use Rattle.exported.proofs.buvzhanik_play.Goals as goal

pub returns : goal.returns
returns c =
    let v = c.in-Ok.answers in
    let before = c.args.output.now in
    let n = c.min-count.result - 0 in
    let front = c.copy_from_slice.ensures.after ∙ ap (take n) c.deref.ensures.value in
    let count = sub-zero c.min-count.result ∙ c.min-count.ensures ∙ ap (λ k. min k (length before)) (c.len.ensures ∙ sym c.len-2.ensures) in
    inl (record {
      answers = vec_items v;
      played = c.in-Ok.ensures;
      long = c.len-2.ensures ∙ v.ok.0;
      copied = ap (λ l. l ++ drop n before) front ∙ ap (λ k. take k (vec_items v) ++ drop k before) count;
    })
