use Rattle.hp_diff.proofs.Lowering.{next_repair}
use Rattle.hp_diff.proofs.repair.repair.Goals as goal

pub returns-in-Stop : goal.returns-in-Stop
returns-in-Stop c = let turns = rw c.in-Stop.is at c.scan.ensures in (turns.0, turns.1 _ c.loop-head.invariant.agree)

pub loop-head-preserved : goal.loop-head-preserved
loop-head-preserved c =
    let goes = rw (c.in-Go-scan.is, c.as_slice-in-loop-head.ensures) at c.scan.ensures in
    next_repair _ _ _ _ _ _ _ _ c.if-head-tail.false c.loop-head.invariant goes
