use Rattle.std.proofs.Common.{◌≡◌, arith, to_z, of_z}
use Rattle.std.specs.Int.{w128}
use Rattle.std.proofs.lemmas.Int.{ints}
use Rattle.hp_leaf.proofs.Cycles.{valid_of, invalid_of}
use Rattle.hp_leaf.proofs.cycle.check_idx.Goals as goal

pub returns-clause-valid : goal.returns-clause-valid
returns-clause-valid c = λ e.
    let b : to_z w128 (of_z w128 c.in_ok-sum.sum) ≡ c.in_ok-sum.sum = omega (arith, ints) in
    valid_of c.args.path.now c.args.steps.now c.in_ok-sum.sum _ (c.is_cycle.ensures.yes c.if-not-is_cycle.false) c.in_ok-sum.ensures b e

pub returns-clause-invalid : goal.returns-clause-invalid
returns-clause-invalid c = λ e.
    let b : to_z w128 (of_z w128 c.in_ok-sum.sum) ≡ c.in_ok-sum.sum = omega (arith, ints) in
    invalid_of c.args.path.now c.args.steps.now c.in_ok-sum.sum _ c.in_ok-sum.ensures b e
