use Rattle.hp_index_set.specs.IndexSet.{guard_bounds}
use Rattle.hp_index_set.proofs.Adding.{added_next}
use Rattle.hp_index_set.proofs.bounds.add_bounds.Goals as goal

pub loop-clause-preserved : goal.loop-clause-preserved
loop-clause-preserved c =
    added_next (guard_bounds c.args.names.now) c.args.indexes.now c.loop-clause.indexes c.add_guard_bounds.new.indexes c.args.clauses.now c.loop-clause.clause-index c.clause-item.result
    c.loop-clause-test.true c.clause-item.is c.in_ok-add_guard_bounds.ensures c.loop-clause.invariant
