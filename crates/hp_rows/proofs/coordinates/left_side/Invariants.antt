use Rattle.std.proofs.Common.{◌≡◌, drop, pos}
use Rattle.hp_math.specs.Rational.{whole}
use Rattle.hp_rows.specs.Points.{left_of}
use Rattle.hp_rows.proofs.coordinates.left_side.Given as goal

abbrev pub invariant-loop-at : goal.invariant-loop-at
invariant-loop-at l = left_of (whole (pos 0)) l.coefs l.point ≡ left_of l.total (drop l.at l.coefs) (drop l.at l.point)
