use Rattle.std.proofs.Common.{◌≡◌, drop}
use Rattle.hp_norm.specs.Scopes.{clause_scope}
use Rattle.hp_norm.specs.Testing.{tested_atoms}
use Rattle.hp_norm.proofs.testing.test_atoms.Given as goal

abbrev pub invariant-loop-atom : goal.invariant-loop-atom
invariant-loop-atom l = tested_atoms (clause_scope l.names l.vars) l.standing l.positive l.atoms ≡ tested_atoms (clause_scope l.names l.vars) l.standing l.positive (drop l.atom-index l.atoms)
