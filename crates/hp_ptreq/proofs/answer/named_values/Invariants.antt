use Rattle.std.proofs.Common.{take}
use Rattle.hp_nodes.specs.Nodes.{AreNamedValues}
use Rattle.hp_ptreq.specs.inner.Nodes.{label_value}
use Rattle.hp_ptreq.proofs.answer.named_values.Given as goal

abbrev pub invariant-loop-at : goal.invariant-loop-at
invariant-loop-at l = AreNamedValues (take l.at l.names) (label_value l.labels) l.named
