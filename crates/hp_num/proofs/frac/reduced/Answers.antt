use Rattle.std.proofs.Common.{ℤ, pos, ◌<ℤ◌, ◌<◌, unsigned_abs, sym, ◌∙◌, arith, subst}
use Rattle.std.specs.Int.{IsGcd}
use Rattle.std.specs.Prelude.{int_div}
use borrow.Author.Differences.{up}
use Rattle.hp_math.specs.Rational.{ratio, IsLowest}
use Rattle.hp_num.proofs.Reduce.{gcd_of, divisor-le, divisor-pos, is_fraction, same_value}
use Rattle.hp_num.proofs.frac.reduced.Goals as goal
use Rattle.hp_num.proofs.frac.reduced.Goals.{After-gcd-divisor}

is_gcd : (c : After-gcd-divisor) → IsGcd (unsigned_abs c.args.top) (unsigned_abs c.args.below) c.gcd-divisor.result
is_gcd c = gcd_of _ _ _ _ _ c.magnitude.ensures.value c.magnitude-2.ensures.value c.gcd-divisor.ensures.greatest

above : (c : After-gcd-divisor) → 0 < c.gcd-divisor.result
above c = divisor-pos c.args.top c.args.below _ c.requires (is_gcd c)

narrow : (c : After-gcd-divisor) → c.gcd-divisor.result < 170141183460469231731687303715884105728
narrow c = let e = c.magnitude-2.ensures in omega (arith, divisor-le c.args.top c.args.below _ c.requires (is_gcd c))

pub over-requires-clause-positive : goal.over-requires-clause-positive
over-requires-clause-positive c = above c

pub over-requires-clause-small : goal.over-requires-clause-small
over-requires-clause-small c = narrow c

pub over-requires-2-clause-positive : goal.over-requires-2-clause-positive
over-requires-2-clause-positive c = above (goal.at.over-requires-2-clause-positive c).After-gcd-divisor

pub over-requires-2-clause-small : goal.over-requires-2-clause-small
over-requires-2-clause-small c = narrow (goal.at.over-requires-2-clause-small c).After-gcd-divisor

pub invariant_of-result : goal.invariant_of-result
invariant_of-result c =
    let b = (goal.at.invariant_of-result c).After-gcd-divisor in
    subst (λ (t : ℤ). (pos 0 <ℤ c.over-2.result) × IsLowest t (up c.over-2.result)) (sym c.over.ensures)
    (subst (λ (u : ℤ). (pos 0 <ℤ u) × IsLowest (int_div c.args.top (pos c.gcd-divisor.result)) (up u)) (sym c.over-2.ensures) (is_fraction c.args.top c.args.below _ c.requires (is_gcd b)))

pub returns : goal.returns
returns c =
    let b = (goal.at.returns c).After-gcd-divisor in
    (λ i. ratio (c.over.ensures i) (up (c.over-2.ensures i))) ∙ same_value c.args.top c.args.below _ c.requires (is_gcd b)
