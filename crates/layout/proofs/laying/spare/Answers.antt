use Rattle.std.proofs.Common.{◌≡◌, ℕ, suc, ◌+◌, ◌-◌, ◌*◌, map, sym, ap, ◌∙◌, arith}
use Rattle.std.specs.List.{range_with_len}
use Rattle.layout.specs.Field.{put_num}
use Rattle.layout.specs.Laid.{with_rows, after}
use Rattle.layout.proofs.laying.spare.Goals as goal

pub loop-k-preserved : goal.loop-k-preserved
loop-k-preserved c =
    let k : ℕ = c.loop-k.k + 1 in
    let e : c.args.last - c.loop-k.k ≡ suc (c.args.last - k) = omega arith in
    ap (λ bs. with_rows 16 2 bs (k + 1) (map (after c.args.last) (range_with_len (k + 1) (c.args.last - k)))) (c.set_next.ensures.bytes ∙ ap (put_num c.loop-k.bytes (32 * k + 16) 2) c.follower.ensures)
    ∙ sym (ap (λ d. with_rows 16 2 c.loop-k.bytes k (map (after c.args.last) (range_with_len k d))) e)
    ∙ c.loop-k.invariant
