use Rattle.hp_index_set.specs.IndexSet.{atom_bounds}
use Rattle.hp_index_set.proofs.Adding.{added_next}
use Rattle.hp_index_set.proofs.bounds.add_atoms_bounds.Goals as goal

pub loop-atom-preserved : goal.loop-atom-preserved
loop-atom-preserved c =
    added_next (atom_bounds c.args.names.now c.args.clause.now) c.args.indexes.now c.loop-atom.indexes c.add_atom_bounds.new.indexes c.args.atoms.now c.loop-atom.atom-index c.atom-item.result
    c.loop-atom-test.true c.atom-item.is c.in_ok-add_atom_bounds.ensures c.loop-atom.invariant
