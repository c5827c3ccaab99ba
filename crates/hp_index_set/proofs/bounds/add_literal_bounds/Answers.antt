use Rattle.hp_index_set.specs.IndexSet.{literal_bounds}
use Rattle.hp_index_set.proofs.Adding.{added_next}
use Rattle.hp_index_set.proofs.bounds.add_literal_bounds.Goals as goal

pub loop-lit-preserved : goal.loop-lit-preserved
loop-lit-preserved c =
    added_next (literal_bounds c.args.names) c.args.indexes.now c.loop-lit.indexes c.add_literal_bound.new.indexes c.args.lits.now c.loop-lit.lit-index c.lit-item.result c.loop-lit-test.true
    c.lit-item.is c.in_ok-add_literal_bound.ensures c.loop-lit.invariant
