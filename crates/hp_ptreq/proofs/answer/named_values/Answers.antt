use Rattle.hp_nodes.proofs.Values.{next_named}
use Rattle.std.proofs.Common.{refl}
use Rattle.hp_ptreq.proofs.answer.named_values.Goals as goal

pub loop-at-preserved : goal.loop-at-preserved
loop-at-preserved c = rw c.in_ok-push.ensures.ok (next_named _ _ _ _ _ c.loop-at-test.true refl c.whole_number.ensures c.loop-at.invariant)
