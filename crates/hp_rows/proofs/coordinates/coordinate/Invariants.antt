use Rattle.std.proofs.Common.{◌≡◌, drop, length}
use Rattle.hp_math.specs.Rational.{whole}
use Rattle.hp_rows.specs.Lines.{entry}
use Rattle.hp_rows.specs.Points.{rest_of}
use Rattle.hp_rows.proofs.coordinates.coordinate.Given as goal

abbrev pub invariant-loop-at : goal.invariant-loop-at
invariant-loop-at l = rest_of (whole (entry l.g (length l.point))) l.g l.point ≡ rest_of l.rest (drop l.at l.g) (drop l.at l.point)
