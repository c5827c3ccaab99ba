use Rattle.std.proofs.Common.{arith}
use Rattle.hp_ptreq.proofs.Searching.{start_back, next_back, end_back}
use Rattle.hp_ptreq.proofs.ways.way_back.Goals as goal

pub back-init : goal.back-init
back-init c = rw c.new-way.ensures (start_back _ _ _ c.requires.number)

pub back-smaller : goal.back-smaller
back-smaller c = rw c.as_slice.ensures (next_back _ _ _ _ _ _ _ c.requires.met c.back.invariant c.back-test.true).0

pub back-preserved : goal.back-preserved
back-preserved c = rw (c.in_ok-push.ensures.ok, c.as_slice.ensures) (next_back _ _ _ _ _ _ _ c.requires.met c.back.invariant c.back-test.true).1

pub returns : goal.returns
returns c = end_back _ _ _ _ _ _ _ c.requires.met c.back.invariant (omega arith)
