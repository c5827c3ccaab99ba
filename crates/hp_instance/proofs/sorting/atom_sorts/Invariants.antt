use Rattle.std.proofs.Common.{◌≡◌, map, take}
use Rattle.hp_terms.specs.Sorting.{sort_of}
use Rattle.hp_norm.specs.Scopes.{clause_scope}
use Rattle.hp_instance.proofs.sorting.atom_sorts.Given as goal

abbrev pub invariant-loop-atom : goal.invariant-loop-atom
invariant-loop-atom l = l.sorts ≡ map (sort_of (clause_scope l.names l.vars)) (take l.atom-index l.atoms)
