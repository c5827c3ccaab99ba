use Rattle.std.proofs.Common.{pos, ◌/◌, sym, ap, ◌∙◌}
use Rattle.std.specs.Prelude.{int_div}
use Rattle.hp_num.proofs.Sums.{product_pos, share-pos}
use Rattle.std.proofs.Math.Nat.{pos_of_dvd_of_pos}
use Rattle.hp_num.proofs.frac.mul_by.Goals as goal

pub over-left_top-requires-clause-positive : goal.over-left_top-requires-clause-positive
over-left_top-requires-clause-positive c = pos_of_dvd_of_pos c.requires.common.1 c.args.right.positive

pub over-right_top-requires-clause-positive : goal.over-right_top-requires-clause-positive
over-right_top-requires-clause-positive c = pos_of_dvd_of_pos c.requires.common_back.1 c.args.left.positive

pub over-left_below-requires-clause-positive : goal.over-left_below-requires-clause-positive
over-left_below-requires-clause-positive c = pos_of_dvd_of_pos c.requires.common_back.1 c.args.left.positive

pub over-right_below-requires-clause-positive : goal.over-right_below-requires-clause-positive
over-right_below-requires-clause-positive c = pos_of_dvd_of_pos c.requires.common.1 c.args.right.positive

pub reduced-requires : goal.reduced-requires
reduced-requires c =
    product_pos c.over-left_below.result c.over-right_below.result c.in_ok-below.below (c.args.left.den / c.args.second) (c.args.right.den / c.args.first) (sym c.times-2.ensures ∙ c.in_ok-below.was)
    (c.over-left_below.ensures ∙ ap (λ z. int_div z (pos c.args.second)) c.below.ensures)
    (c.over-right_below.ensures ∙ ap (λ z. int_div z (pos c.args.first)) c.below-2.ensures)
    (share-pos c.args.second c.args.left c.requires.common_back.1) (share-pos c.args.first c.args.right c.requires.common.1)
