use Rattle.std.proofs.Common.{◌<◌, subst, sym}
use Rattle.hp_num.proofs.Divisor.{gcd-pos}
use Rattle.hp_linear.proofs.numbers.lcm.Goals as goal

pub nonzero_div-share : goal.nonzero_div-share
nonzero_div-share c = subst (λ n. 0 < n) (sym c.gcd.ensures.value) (gcd-pos c.args.left c.args.right c.requires)
