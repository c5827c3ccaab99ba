use Rattle.hp_ptreq.proofs.Labels.{first_labels, next_labels}
use Rattle.hp_ptreq.proofs.classes.labels_of.Goals as goal

pub loop-node-init : goal.loop-node-init
loop-node-init c = rw c.new-labels.ensures (first_labels _)

pub loop-node-preserved : goal.loop-node-preserved
loop-node-preserved c = rw c.in_ok-push.ensures.ok (next_labels _ _ _ _ _ c.requires c.loop-node-test.true c.loop-node.invariant c.next_label-label.ensures.root c.next_label-label.ensures.child)
