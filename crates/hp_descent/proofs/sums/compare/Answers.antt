use Rattle.std.proofs.Common.{sym, ◌∙◌}
use Rattle.hp_descent.proofs.Addition.{narrow_is, stands_at, decides_at}
use Rattle.hp_descent.proofs.sums.compare.Goals as goal

pub returns-in-Ok-clause-exact : goal.returns-in-Ok-clause-exact
returns-in-Ok-clause-exact c =
    let e = rw c.as_slice.ensures at (sym c.sum_over.ensures ∙ c.in-Ok.is) in
    stands_at c.args.v.now.values c.args.other.now c.in-Ok.sum c.standing.result e (rw (narrow_is c.args.other.now.bound c.requires.bound) at c.standing.ensures)

pub returns-in-Ok-clause-decides : goal.returns-in-Ok-clause-decides
returns-in-Ok-clause-decides c =
    let e = rw c.as_slice.ensures at (sym c.sum_over.ensures ∙ c.in-Ok.is) in
    decides_at c.args.v.now.values c.args.other.now c.in-Ok.sum c.standing.result e (rw (narrow_is c.args.other.now.bound c.requires.bound) at c.standing.ensures)
