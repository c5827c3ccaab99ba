use Rattle.hp_diff.proofs.Shown.{IsFollowed}
use Rattle.hp_diff.proofs.parents.closed_walk.Given as goal

abbrev pub invariant-loop-turn : goal.invariant-loop-turn
invariant-loop-turn l = IsFollowed l.edges l.nodes l.start l.node l.turn l.sum l.cycle.items
