use Rattle.hp_sorts.proofs.Walking.{clause_answers}
use Rattle.hp_sorts.proofs.clauses.check_clause.Goals as goal

pub returns : goal.returns
returns c =
    clause_answers (λ _. Unit {0}) c.check_atoms.result c.args.tables.now c.in_ok-vars.vars c.args.item c.args.clause.now c.as_slice.result.now
    c.as_slice.ensures c.in_ok-vars.ensures.0 c.in_ok-vars.ensures.1 c.check_atoms.ensures
