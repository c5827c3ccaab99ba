use Rattle.std.proofs.Common.{ℕ, pos, ◌<◌, ◌/◌, sym, ◌∙◌, ap}
use Rattle.std.proofs.Math.Nat.{pos_of_dvd_of_pos}
use Rattle.std.specs.Int.{IsGcd}
use Rattle.std.specs.Prelude.{int_div}
use Rattle.hp_num.proofs.Sums.{product_pos, share-pos}
use Rattle.hp_math.specs.Rational.{ℚ}
use Rattle.hp_num.proofs.frac.add_by.Goals as goal

above : (x y : ℚ) (h : ℕ) → IsGcd x.den y.den h → 0 < h
above x y h g = pos_of_dvd_of_pos g.0 x.positive

pub over-left_scale-requires-clause-positive : goal.over-left_scale-requires-clause-positive
over-left_scale-requires-clause-positive c = above c.args.left c.args.right c.args.divisor c.requires.common

pub over-left_scale-requires-clause-small : goal.over-left_scale-requires-clause-small
over-left_scale-requires-clause-small c = c.requires.small

pub over-right_scale-requires-clause-positive : goal.over-right_scale-requires-clause-positive
over-right_scale-requires-clause-positive c = above c.args.left c.args.right c.args.divisor c.requires.common

pub over-right_scale-requires-clause-small : goal.over-right_scale-requires-clause-small
over-right_scale-requires-clause-small c = c.requires.small

pub reduced-requires : goal.reduced-requires
reduced-requires c =
    product_pos c.below-3.result c.over-left_scale.result c.in_ok-below.below c.args.left.den (c.args.right.den / c.args.divisor) (sym c.times-3.ensures ∙ c.in_ok-below.was)
    c.below-3.ensures (c.over-left_scale.ensures ∙ ap (λ z. int_div z (pos c.args.divisor)) c.below.ensures)
    c.args.left.positive (share-pos c.args.divisor c.args.right c.requires.common.1)
