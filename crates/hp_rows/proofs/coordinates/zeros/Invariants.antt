use Rattle.std.proofs.Common.{◌≡◌}
use Rattle.hp_rows.specs.Points.{zeros}
use Rattle.hp_rows.proofs.coordinates.zeros.Given as goal

abbrev pub invariant-loop-at : goal.invariant-loop-at
invariant-loop-at l = l.point ≡ zeros l._at
