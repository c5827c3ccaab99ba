use Rattle.std.proofs.Common.{◌<◌, ◌^◌, subst, sym}
use Rattle.hp_num.proofs.Divisor.{gcd-below}
use Rattle.hp_linear.proofs.wholes.row_divisor.Goals as goal

pub returns-clause-narrow : goal.returns-clause-narrow
returns-clause-narrow c =
    subst (λ n. n < 2 ^ 127) (sym c.gcd.ensures.value) (gcd-below c.parts_divisor.result c.magnitude.result (2 ^ 127) c.parts_divisor.ensures.narrow c.magnitude.ensures.narrow)
