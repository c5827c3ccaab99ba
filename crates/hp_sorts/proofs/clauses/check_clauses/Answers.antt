use Rattle.std.proofs.lemmas.Result.{err_from_is_err_and}
use Rattle.hp_sorts.proofs.Walking.{clause_fails}
use Rattle.hp_sorts.proofs.clauses.check_clauses.Goals as goal

pub returns-in_err-check_clause : goal.returns-in_err-check_clause
returns-in_err-check_clause c =
    let p = err_from_is_err_and c.from_residual.result c.from_residual.ensures.1 in
    rw (p.1, p.2) (clause_fails c.args.tables.now c.args.before c.loop-clause.item c.args.clauses.now c.loop-clause.clause-index c.clause-item.result _
    c.loop-clause-test.true c.clause-item.is c.loop-clause.invariant.fault c.in_err-check_clause.ensures)
