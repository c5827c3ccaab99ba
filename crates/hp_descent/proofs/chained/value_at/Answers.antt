use Rattle.std.proofs.Common.{sym, ◌∙◌}
use Rattle.hp_descent.proofs.Addition.{narrow_is}
use Rattle.hp_descent.proofs.Located.{compared}
use Rattle.hp_descent.proofs.Lookup.{rising_names}
use Rattle.hp_descent.proofs.chained.value_at.Goals as goal

pub returns-in-Ok : goal.returns-in-Ok
returns-in-Ok c =
    let e = rw (c.as_slice.ensures, c.as_slice-2.ensures) at (sym c.sum_among.ensures ∙ c.in-Ok.is) in
    compared c.args.lits.now c.args.chain.now c.args.other.now c.in_ok-values.values c.in-Ok.sum c.standing.result c.in_ok-values.ensures e (rw (narrow_is c.args.other.now.bound c.requires.other.bound) at c.standing.ensures)

pub sum_among-requires-clause-values : goal.sum_among-requires-clause-values
sum_among-requires-clause-values c = rw c.as_slice.ensures (rising_names c.args.lits.now c.in_ok-values.values c.in_ok-values.ensures.solution.named)
