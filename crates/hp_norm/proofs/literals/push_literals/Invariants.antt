use Rattle.hp_norm.proofs.LiteralSteps.{AtomsSoFar}
use Rattle.hp_norm.proofs.literals.push_literals.Given as goal

abbrev pub invariant-loop-atom : goal.invariant-loop-atom
invariant-loop-atom l = AtomsSoFar l.names l.positive l.atoms l.atom-index l.fn.lits l.lits
