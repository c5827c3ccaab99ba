use Rattle.std.proofs.Common.{◌≡◌, ◌<◌, ◌^◌, drop}
use Rattle.hp_rows.specs.Lines.{gcd_from}
use Rattle.hp_rows.proofs.line.common.Given as goal

abbrev pub invariant-loop-at : goal.invariant-loop-at
invariant-loop-at l = (gcd_from l.divisor (drop l.at l.line) ≡ gcd_from 0 l.line) × (l.divisor < 2 ^ 127)
