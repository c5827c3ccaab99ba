use Rattle.hp_diff.proofs.Lowering.{IsRepairing}
use Rattle.hp_diff.proofs.repair.repair.Given as goal

abbrev pub invariant-loop-head : goal.invariant-loop-head
invariant-loop-head l = IsRepairing l.nodes l.net.edges l.values l.work l.head l.tail
