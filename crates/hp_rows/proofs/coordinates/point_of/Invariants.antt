use Rattle.std.proofs.Common.{◌≡◌, ◌≤◌, take, reverse, length}
use Rattle.hp_rows.specs.Points.{point_of, solve}
use Rattle.hp_rows.proofs.coordinates.point_of.Given as goal

abbrev pub invariant-loop-left : goal.invariant-loop-left
invariant-loop-left l = record {
  so_far : point_of l.width (reverse l.lines) ≡ solve (reverse (take l.left l.lines)) l.point;
  size : length l.point ≡ l.width;
  within : l.left ≤ length l.lines;
}

abbrev pub decreases-loop-left : goal.decreases-loop-left
decreases-loop-left l = l.left
