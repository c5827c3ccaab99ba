use Rattle.std.proofs.Common.{◌≡◌, ◌++◌, Ok, drop, take, length}
use Rattle.hp_num.specs.Wide.{◌>>=◌}
use Rattle.hp_rows.specs.Points.{at_point, quotients}
use Rattle.hp_rows.proofs.coordinates.values.Given as goal

abbrev pub invariant-loop-at : goal.invariant-loop-at
invariant-loop-at l = record {
  so_far : quotients (at_point l.point l.last) (take l.last l.point) ≡ (quotients (at_point l.point l.last) (drop l.at (take l.last l.point)) >>= λ ys. Ok (l.out ++ ys));
  size : length l.out ≡ l.at;
}
