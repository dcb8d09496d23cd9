use Rattle.std.proofs.Common.{◌<◌, sym, ap, ◌∙◌, subst, arith}
use Rattle.std.specs.Char.{digit_value}
use Rattle.std.proofs.lemmas.Int.Digits.{digits_value_more}
use Rattle.std.proofs.lemmas.List.{take_all, at_drop_all}
use Rattle.std.proofs.lemmas.Bool.{cond-true}
use Rattle.std.specs.Str.Parse.{digits_value}
use Rattle.std.specs.Str.{all_ascii_digits}
use Rattle.script.proofs.Numbers.{front_small, digits_digit, all_digit}
use Rattle.script.proofs.fields.decimal.Goals as goal

pub overflow_mul-number : goal.overflow_mul-number
overflow_mul-number c = omega (arith, front_small c.args.text.now c.loop-byte.byte-index c.loop-byte-test.true c.requires c.loop-byte.invariant.1)

pub overflow_add-number : goal.overflow_add-number
overflow_add-number c = omega (arith, front_small c.args.text.now c.loop-byte.byte-index c.loop-byte-test.true c.requires c.loop-byte.invariant.1, c.in_ok-digit.ensures.value, c.from-in-loop-byte.ensures)

pub loop-byte-preserved : goal.loop-byte-preserved
loop-byte-preserved c =
    let at = c.loop-byte-test.true in
    let v = digits_value_more 10 c.args.text.now c.loop-byte.byte-index at in
    let same = ap digit_value c.from.ensures in
    let is = c.in_ok-digit.ensures.value.1 in
    let from = c.from-in-loop-byte.ensures in
    let digit = subst (λ k. digit_value k < 10) c.from.ensures c.in_ok-digit.ensures.value.0 in
    (omega arith, digits_digit _ _ at digit c.loop-byte.invariant.1, c.loop-byte.invariant.2 ∙ all_digit _ _ at digit)

pub returns : goal.returns
returns c =
    let e = take_all c.loop-byte.byte-index c.args.text.now c.loop-byte-test.false in
    let n = c.loop-byte.invariant.0 ∙ ap (digits_value 10) e in
    let d = c.loop-byte.invariant.2 ∙ at_drop_all all_ascii_digits c.args.text.now c.loop-byte.byte-index c.loop-byte-test.false in
    rw n (sym (cond-true _ _ _ d))
