use Rattle.std.proofs.Common.{◌<◌, length}
use Rattle.hp_diff.specs.inner.Labels.{edge_at}
use Rattle.hp_diff.proofs.Shown.{IsFollowed}
use Rattle.hp_diff.proofs.walk.closed_walk.Given as goal

abbrev pub invariant-loop-turn : goal.invariant-loop-turn
invariant-loop-turn l = IsFollowed l.edges l.nodes l.start (edge_at l.edges l.number).to l.turn l.sum l.cycle.items × (l.number < length l.edges)
