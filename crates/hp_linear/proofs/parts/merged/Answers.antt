use Rattle.std.proofs.Common.{inl, inr, arith}
use Rattle.hp_linear.proofs.Merging.{merged_whole}
use Rattle.hp_linear.proofs.parts.merged.Goals as goal
use Rattle.hp_linear.proofs.parts.merged.Goals.{then-loop-i-test+else-j-right, else-loop-i-test}

pub returns : goal.returns
returns c =
    merged_whole c.args.left.now c.args.right.now c.loop-i.all c.push_all.new.summands c.push_all-2.new.summands c.loop-i.i c.loop-i.j c.loop-i.invariant
    (elim c.loop-i-test.branch [ then-loop-i-test+else-j-right w ↦ inr (omega arith) | else-loop-i-test w ↦ inl (omega arith) ])
    c.in_ok-push_all.ensures.ok c.in_ok-push_all-2.ensures.ok
