use Rattle.hp_base.proofs.Making.{computed_first}
use Rattle.hp_norm.specs.Lines.{flat_literals}
use Rattle.hp_norm.proofs.clauses.flat_line.Goals as goal

pub returns-in_err-lits-clause-made : goal.returns-in_err-lits-clause-made
returns-in_err-lits-clause-made c =
    let g = c.args.ground.now in
    let wanted = flat_literals g.names c.args.guard.now c.args.head.now in
    computed_first c.args.item wanted _ g c.in_err-lits.field-0.0 c.from_residual.result (c.in_err-lits.ensures wanted g c.flat_literals.ensures) c.from_residual.ensures.1
