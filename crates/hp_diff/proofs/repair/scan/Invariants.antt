use Rattle.hp_diff.proofs.Lowering.{IsScan}
use Rattle.hp_diff.proofs.repair.scan.Given as goal

abbrev pub invariant-edges : goal.invariant-edges
invariant-edges l = IsScan l.nodes l.net.edges l.fn.work l.work l.head l.tail l.end l.node l.after

abbrev pub decreases-edges : goal.decreases-edges
decreases-edges l = l.after
