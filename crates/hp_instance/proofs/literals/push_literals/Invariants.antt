use Rattle.hp_instance.proofs.LiteralSteps.{LitsSoFar}
use Rattle.hp_instance.proofs.literals.push_literals.Given as goal

abbrev pub invariant-loop-at : goal.invariant-loop-at
invariant-loop-at l = LitsSoFar l.names l.positive l.sorts l.atoms l.at l.fn.lits l.lits
