use Rattle.hp_nodes.proofs.Mentions.{mentions_next}
use Rattle.hp_nodes.proofs.sided.mentions.Goals as goal

pub loop-row-preserved : goal.loop-row-preserved
loop-row-preserved g c =
    rw (c.in_ok-mention-2.ensures, c.in_ok-mention.ensures, c.left.ensures, c.right.ensures, c.row-item.is)
    (mentions_next _ g.R.Sided.left_of g.R.Sided.right_of _ _ _ _ c.loop-row-test.true c.loop-row.invariant)
