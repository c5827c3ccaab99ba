use Rattle.std.proofs.Common.{take}
use Rattle.hp_nodes.specs.Nodes.{AreNamedValues}
use Rattle.hp_diff.specs.inner.Edges.{offset_at}
use Rattle.hp_diff.proofs.answer.named_values.Given as goal

abbrev pub invariant-loop-at : goal.invariant-loop-at
invariant-loop-at l = AreNamedValues (take l.at l.names) (offset_at l.values) l.named
