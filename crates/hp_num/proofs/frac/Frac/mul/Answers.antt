use Rattle.std.proofs.Common.{◌≡◌, unsigned_abs, sym, ap, ◌∙◌, subst, arith, Result, IfErr, IfOk}
use Rattle.std.proofs.lemmas.Nat.Gcd.{same_from_IsGcd, le_of_dvd}
use Rattle.std.specs.Int.{IsGcd}
use Rattle.hp_math.specs.Rational.{ℚ, ◌*ℚ◌}
use Rattle.hp_num.specs.declared.wide.Wide.{Wide}
use Rattle.hp_num.specs.Wide.{Passes, mul_of, mul_over}
use Rattle.hp_num.proofs.Divisor.{gcd-is}
use Rattle.hp_num.proofs.Reduce.{gcd_of}
use Rattle.hp_num.proofs.Refused.{mul_over-passes}
use Rattle.hp_num.proofs.Sums.{mul_exact}
use Rattle.hp_num.proofs.frac.Frac.mul.Goals as goal
use Rattle.hp_num.proofs.frac.Frac.mul.Goals.{After-gcd-second}

first_gcd : (c : After-gcd-second) → IsGcd (unsigned_abs c.args.left.num) c.args.right.den c.gcd-first.result
first_gcd c = gcd_of _ _ _ _ _ (c.magnitude.ensures.value ∙ ap unsigned_abs c.top.ensures) (c.magnitude-2.ensures.value ∙ ap unsigned_abs c.below.ensures) c.gcd-first.ensures.greatest

second_gcd : (c : After-gcd-second) → IsGcd (unsigned_abs c.args.right.num) c.args.left.den c.gcd-second.result
second_gcd c = gcd_of _ _ _ _ _ (c.magnitude-3.ensures.value ∙ ap unsigned_abs c.top-2.ensures) (c.magnitude-4.ensures.value ∙ ap unsigned_abs c.below-2.ensures) c.gcd-second.ensures.greatest

pub mul_by-requires-clause-common : goal.mul_by-requires-clause-common
mul_by-requires-clause-common c = first_gcd c

pub mul_by-requires-clause-common_back : goal.mul_by-requires-clause-common_back
mul_by-requires-clause-common_back c = second_gcd c

pub mul_by-requires-clause-small : goal.mul_by-requires-clause-small
mul_by-requires-clause-small c =
    let f = c.magnitude-2.ensures in
    let g : c.magnitude-2.result ≡ c.args.right.den = f.value ∙ ap unsigned_abs c.below.ensures in
    omega (arith, le_of_dvd c.args.right.positive (first_gcd c).1, f.narrow)

pub mul_by-requires-clause-small_back : goal.mul_by-requires-clause-small_back
mul_by-requires-clause-small_back c =
    let f = c.magnitude-4.ensures in
    let g : c.magnitude-4.result ≡ c.args.left.den = f.value ∙ ap unsigned_abs c.below-2.ensures in
    omega (arith, le_of_dvd c.args.left.positive (second_gcd c).1, f.narrow)

pub returns-clause-formula : goal.returns-clause-formula
unfolding mul_of
returns-clause-formula c =
    let b = (goal.at.returns-clause-formula c).After-gcd-second in
    let s = same_from_IsGcd _ _ _ _ (first_gcd b) (gcd-is _ _) in
    let t = same_from_IsGcd _ _ _ _ (second_gcd b) (gcd-is _ _) in
    c.mul_by.ensures ∙ (λ i. mul_over (s i) (t i) c.args.left c.args.right)

pub returns-clause-exact : goal.returns-clause-exact
returns-clause-exact c =
    let b = (goal.at.returns-clause-exact c).After-gcd-second in
    subst (λ (r : Result ℚ Wide). IfOk r (λ product. product ≡ c.args.left *ℚ c.args.right)) (sym c.mul_by.ensures) (mul_exact _ _ c.args.left c.args.right (first_gcd b) (second_gcd b))

pub returns-clause-passes : goal.returns-clause-passes
returns-clause-passes c =
    subst (λ (r : Result ℚ Wide). IfErr r Passes) (sym c.mul_by.ensures) (mul_over-passes _ _ c.args.left c.args.right)
