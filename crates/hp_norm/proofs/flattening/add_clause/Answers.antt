use Rattle.std.proofs.Common.{true, false, Ok, refl}
use Rattle.hp_norm.specs.Flat.{flat_clause}
use Rattle.hp_norm.specs.Lines.{ground_line}
use Rattle.hp_norm.proofs.FlatSteps.{more_flat, more_line, no_flat, with_test}
use Rattle.hp_norm.proofs.flattening.add_clause.Goals as goal

pub returns-in_err-flat-clause-made : goal.returns-in_err-flat-clause-made
returns-in_err-flat-clause-made c =
    with_test c.args.item c.args.number c.args.clause.now _ true _ _ _ _ _ c.has_variables.ensures c.if-has_variables.true
    (no_flat (flat_clause c.args.item c.args.number c.args.clause.now) _ _ _ _ _ _ c.in_err-flat.ensures.made c.from_residual.ensures.1)

pub returns-in_ok-push-clause-made : goal.returns-in_ok-push-clause-made
returns-in_ok-push-clause-made c =
    let old = c.args.ground.now in
    let new = c.flat_clause.new.ground in
    with_test c.args.item c.args.number c.args.clause.now c.has_variables.result true old new c.args.flats.now c.push.new.self (Ok tt) c.has_variables.ensures c.if-has_variables.true
    (more_flat (flat_clause c.args.item c.args.number c.args.clause.now) old new c.args.flats.now c.push.new.self c.in_ok-flat.flat c.in_ok-flat.ensures.made c.in_ok-push.ensures.ok)

pub returns-else-has_variables-clause-made : goal.returns-else-has_variables-clause-made
returns-else-has_variables-clause-made c =
    let old = c.args.ground.now in
    let new = c.ground_line.new.ground in
    with_test c.args.item c.args.number c.args.clause.now c.has_variables.result false old new c.args.flats.now c.args.flats.now c.ground_line.result c.has_variables.ensures c.if-has_variables.false
    (more_line (ground_line c.args.item c.args.number c.args.clause.now) old new c.args.flats.now c.args.flats.now c.ground_line.result refl c.ground_line.ensures.made)
