use Rattle.std.proofs.Common.{◌≡◌, drop}
use Rattle.std.specs.List.{flat_map}
use Rattle.hp_index_set.specs.IndexSet.{atom_bounds, with_indexes}
use Rattle.hp_index_set.proofs.bounds.add_atoms_bounds.Given as goal

abbrev pub invariant-loop-atom : goal.invariant-loop-atom
invariant-loop-atom l = with_indexes l.fn.indexes (flat_map (atom_bounds l.names l.clause) l.atoms) ≡ with_indexes l.indexes (flat_map (atom_bounds l.names l.clause) (drop l.atom-index l.atoms))
