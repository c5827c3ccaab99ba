use Rattle.std.proofs.Common.{◌≡◌, take}
use Rattle.hp_nodes.specs.Nodes.{mentioned_by}
use Rattle.hp_nodes.proofs.sided.mentions.Given as goal

abbrev pub invariant-loop-row : goal.invariant-loop-row
invariant-loop-row g l = l.names.items ≡ mentioned_by g.R.Sided.left_of g.R.Sided.right_of (take l.row-index l.rows)
