use Rattle.hp_ptreq.specs.inner.Classes.{AreLabels}
use Rattle.hp_ptreq.proofs.classes.labels_of.Given as goal

abbrev pub invariant-loop-node : goal.invariant-loop-node
invariant-loop-node l = AreLabels l.node l.parents l.labels
