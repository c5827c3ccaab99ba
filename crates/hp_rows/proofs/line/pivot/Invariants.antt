use Rattle.std.proofs.Common.{◌≡◌, drop, ◌+◌}
use Rattle.hp_rows.specs.Lines.{pivot}
use Rattle.hp_rows.proofs.line.pivot.Given as goal

abbrev pub invariant-loop-at : goal.invariant-loop-at
invariant-loop-at l = pivot l.line ≡ l.at + pivot (drop l.at l.line)
