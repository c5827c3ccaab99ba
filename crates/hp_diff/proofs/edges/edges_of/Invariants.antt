use Rattle.hp_diff.proofs.Building.{AreBuilt}
use Rattle.hp_diff.proofs.edges.edges_of.Given as goal

abbrev pub invariant-loop-at : goal.invariant-loop-at
invariant-loop-at l = AreBuilt l.names l.rows l.edges.items l.at
