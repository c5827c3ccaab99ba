use Rattle.hp_ptreq.specs.inner.Built.{AreClasses}
use Rattle.hp_ptreq.proofs.classes.classes_of.Given as goal

abbrev pub invariant-loop-at : goal.invariant-loop-at
invariant-loop-at l = AreClasses l.names l.rows l.at l.classes
