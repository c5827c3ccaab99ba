use Rattle.std.proofs.Common.{arith, sym}
use Rattle.hp_norm.proofs.SameTrees.{uneven}
use Rattle.hp_norm.proofs.trees.+same.Goals as goal

pub all_same-returns-then-left-right : goal.all_same-returns-then-left-right
all_same-returns-then-left-right t c = sym (uneven c.args.left.now c.args.right.now (λ e. omega (arith, e)))
