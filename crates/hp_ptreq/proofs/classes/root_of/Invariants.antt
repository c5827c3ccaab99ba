use Rattle.hp_ptreq.proofs.Trees.{IsClimbed}
use Rattle.hp_ptreq.proofs.classes.root_of.Given as goal

abbrev pub invariant-up : goal.invariant-up
invariant-up l = IsClimbed l.nodes l.fn.parents l.parents l.node l.at

abbrev pub decreases-up : goal.decreases-up
decreases-up l = l.at
