use Rattle.std.proofs.Common.{refl}
use Rattle.hp_norm.specs.Testing.{tested}
use Rattle.hp_norm.proofs.ClauseTests.{atoms_tested, guard_failed, head_failed}
use Rattle.hp_norm.proofs.TestSteps.{short}
use Rattle.hp_norm.proofs.testing.test_clause.Goals as goal

pub returns-in_err-standing : goal.returns-in_err-standing
returns-in_err-standing c = short (tested c.args.names.now c.args.clause.now) _ _ c.in_err-standing.ensures.short c.from_residual.ensures.1

pub returns-in_err-test_atoms : goal.returns-in_err-test_atoms
returns-in_err-test_atoms c =
    let clause = c.args.clause.now in
    guard_failed c.args.names.now clause c.in_ok-standing.standing c.as_slice-vars.result.now c.as_slice.result.now clause.head c.in_ok-standing.ensures.made c.as_slice-vars.ensures c.as_slice.ensures refl
    _ _ c.in_err-test_atoms.ensures c.from_residual-in_err-test_atoms.ensures.1

pub returns-in_err-test_atoms-2 : goal.returns-in_err-test_atoms-2
returns-in_err-test_atoms-2 c =
    head_failed c.args.names.now c.args.clause.now c.in_ok-standing.standing c.as_slice-vars.result.now c.as_slice.result.now c.as_slice-2.result.now c.in_ok-standing.ensures.made c.as_slice-vars.ensures
    c.as_slice.ensures c.as_slice-2.ensures _ _ _ c.in_ok-test_atoms.ensures c.in_err-test_atoms-2.ensures c.from_residual-in_err-test_atoms-2.ensures.1

pub returns : goal.returns
returns c =
    atoms_tested c.args.names.now c.args.clause.now c.in_ok-standing.standing c.as_slice-vars.result.now c.as_slice.result.now c.as_slice-2.result.now c.in_ok-standing.ensures.made c.as_slice-vars.ensures
    c.as_slice.ensures c.as_slice-2.ensures _ _ _ c.in_ok-test_atoms.ensures c.in_ok-test_atoms-2.ensures c.test_apps.ensures
