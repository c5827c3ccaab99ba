use Rattle.hp_base.specs.Defining.{sum_literals}
use Rattle.hp_base.proofs.Making.{computed_first}
use Rattle.hp_base.proofs.defining.add_sum_line.Goals as goal

pub returns-in_err-lits-clause-made : goal.returns-in_err-lits-clause-made
returns-in_err-lits-clause-made c =
    computed_first c.args.item (sum_literals c.args.name c.args.lin.now) _ c.args.g.now c.in_err-lits.field-0.0 c.from_residual.result
    (c.in_err-lits.ensures (sum_literals c.args.name c.args.lin.now) c.args.g.now c.sum_literals.ensures) c.from_residual.ensures.1
