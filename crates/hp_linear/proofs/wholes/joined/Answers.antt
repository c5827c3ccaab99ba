use Rattle.std.proofs.Common.{◌<◌, ◌^◌, subst, sym}
use Rattle.hp_num.proofs.Divisor.{gcd-below}
use Rattle.hp_linear.proofs.wholes.joined.Goals as goal

pub returns-clause-narrow : goal.returns-clause-narrow
returns-clause-narrow c = subst (λ n. n < 2 ^ 127) (sym c.gcd.ensures.value) (gcd-below c.args.divisor c.magnitude.result (2 ^ 127) c.requires.divisor c.magnitude.ensures.narrow)
