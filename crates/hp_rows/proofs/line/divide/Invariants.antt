use Rattle.std.proofs.Common.{◌≡◌, take, map, length}
use Rattle.hp_rows.specs.Arithmetic.{over}
use Rattle.hp_rows.proofs.line.divide.Given as goal

abbrev pub invariant-loop-at : goal.invariant-loop-at
invariant-loop-at l = record {
  each : l.out ≡ map (λ z. over z l.divisor) (take l.at l.line);
  size : length l.out ≡ l.at;
}
