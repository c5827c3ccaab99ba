use Rattle.hp_base.specs.Making.{keep}
use Rattle.hp_base.proofs.Making.{begins_same, computed_first}
use Rattle.hp_norm.specs.Testing.{tested}
use Rattle.hp_norm.proofs.flattening.tested_clause.Goals as goal

pub returns-in_err-computed-clause-made : goal.returns-in_err-computed-clause-made
returns-in_err-computed-clause-made c =
    let g = c.args.ground.now in
    let wanted = tested g.names c.args.flat in
    computed_first c.args.flat.item wanted (λ done. keep c.args.flat) g c.in_err-computed.field-0.0 c.from_residual.result (c.in_err-computed.ensures wanted g c.test_clause.ensures) c.from_residual.ensures.1

pub returns-in_err-computed-clause-kept : goal.returns-in_err-computed-clause-kept
returns-in_err-computed-clause-kept c = begins_same c.args.ground.now

pub returns-clause-kept : goal.returns-clause-kept
returns-clause-kept c = begins_same c.args.ground.now
