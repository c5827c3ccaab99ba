use Rattle.hp_norm.specs.Scopes.{clause_scope}
use Rattle.hp_norm.proofs.ClauseTests.{atom_failed, atom_passed}
use Rattle.hp_norm.proofs.testing.test_atoms.Goals as goal

pub returns-in_err-test_as : goal.returns-in_err-test_as
returns-in_err-test_as c =
    atom_failed (clause_scope c.args.names.now c.args.vars.now) c.args.standing.now c.args.positive c.args.atoms.now c.loop-atom.atom-index c.atom-item.result c.clause_sort.result
    c.loop-atom-test.true c.atom-item.is c.clause_sort.ensures c.loop-atom.invariant _ _ c.in_err-test_as.ensures c.from_residual.ensures.1

pub loop-atom-preserved : goal.loop-atom-preserved
loop-atom-preserved c =
    atom_passed (clause_scope c.args.names.now c.args.vars.now) c.args.standing.now c.args.positive c.args.atoms.now c.loop-atom.atom-index c.atom-item.result c.clause_sort.result
    c.loop-atom-test.true c.atom-item.is c.clause_sort.ensures c.loop-atom.invariant _ c.in_ok-test_as.ensures
