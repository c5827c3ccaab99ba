use Rattle.std.proofs.Common.{take}
use Rattle.std.specs.List.{All}
use Rattle.hp_ptreq.specs.inner.Built.{IsApart}
use Rattle.hp_ptreq.proofs.answer.first_clash.Given as goal

abbrev pub invariant-loop-at : goal.invariant-loop-at
invariant-loop-at l = All (IsApart l.names l.labels) (take l.at l.rows)
