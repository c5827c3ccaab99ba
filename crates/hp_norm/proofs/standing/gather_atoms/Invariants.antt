use Rattle.std.proofs.Common.{◌≡◌, drop}
use Rattle.hp_norm.specs.Testing.{gathered_atoms}
use Rattle.hp_norm.proofs.standing.gather_atoms.Given as goal

abbrev pub invariant-loop-atom : goal.invariant-loop-atom
invariant-loop-atom l = gathered_atoms l.atoms l.fn.apps ≡ gathered_atoms (drop l.atom-index l.atoms) l.apps
