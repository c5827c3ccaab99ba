use Rattle.hp_math.specs.Rational.{whole}
use Rattle.hp_descent.proofs.Addition.{narrow_is, stands}
use Rattle.hp_descent.proofs.sums.standing.Goals as goal

pub returns : goal.returns
returns c =
    let n = narrow_is c.args.bound c.requires in
    stands c.cmp.result c.args.left (whole c.args.bound) (rw (c.fraction.ensures, n) at c.cmp.ensures.less) (rw (c.fraction.ensures, n) at c.cmp.ensures.equal)
    (rw (c.fraction.ensures, n) at c.cmp.ensures.greater)
