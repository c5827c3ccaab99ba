use Rattle.std.proofs.Common.{◌≡◌, ◌∙◌, ap, take, arith, length}
use Rattle.std.proofs.Math.Seq.{take-length}
use Rattle.hp_text.specs.Numeral.{numeral_value}
use Rattle.hp_text.proofs.Values.{few_digits, one_digit_more}
use Rattle.hp_text.proofs.digits.numeral.Goals as goal

pub overflow_mul-value : goal.overflow_mul-value
overflow_mul-value c = omega (arith, one_digit_more c.loop-digit.value c.loop-digit.digit-index c.loop-digit.invariant.small (omega arith))

pub overflow_add-value : goal.overflow_add-value
overflow_add-value c = omega (arith, one_digit_more c.loop-digit.value c.loop-digit.digit-index c.loop-digit.invariant.small (omega arith))

pub returns-clause-small : goal.returns-clause-small
returns-clause-small c =
    let all : c.loop-digit.digit-index ≡ length c.args.bytes.now = omega arith in
    let whole : take c.loop-digit.digit-index c.args.bytes.now ≡ c.args.bytes.now = ap (λ n. take n c.args.bytes.now) all ∙ take-length c.args.bytes.now in
    let value : c.loop-digit.value ≡ numeral_value c.args.bytes.now = c.loop-digit.invariant.value ∙ ap numeral_value whole in
    few_digits c.loop-digit.value _ c.loop-digit.digit-index value c.loop-digit.invariant.small (omega (arith, c.requires.most))
