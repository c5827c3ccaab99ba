use Rattle.std.proofs.Common.{inl, inr, arith}
use Rattle.hp_base.proofs.Apart.{apart_end}
use Rattle.hp_base.proofs.congruence.apart_literals.Goals as goal
use Rattle.hp_base.proofs.congruence.apart_literals.Goals.{then-loop-at-test+then-at-left+else-at-right, then-loop-at-test+else-at-left, else-loop-at-test}

pub returns : goal.returns
returns c =
    let sorts = c.args.sorts.now in
    let left = c.args.left.now in
    let right = c.args.right.now in
    elim c.loop-at-test.branch [
      | then-loop-at-test+then-at-left+else-at-right w ↦ apart_end sorts left right c.loop-at.at c.loop-at.lits (inr (inr (omega arith))) c.loop-at.invariant
      | then-loop-at-test+else-at-left w ↦ apart_end sorts left right c.loop-at.at c.loop-at.lits (inr (inl (omega arith))) c.loop-at.invariant
      | else-loop-at-test w ↦ apart_end sorts left right c.loop-at.at c.loop-at.lits (inl (omega arith)) c.loop-at.invariant
    ]
