use Rattle.std.proofs.Common.{◌≡◌, pos, replicate}
use Rattle.hp_math.specs.Rational.{whole}
use Rattle.hp_path.proofs.placing.zeros.Given as goal

abbrev pub invariant-loop-at : goal.invariant-loop-at
invariant-loop-at l = l.values ≡ replicate l._at (whole (pos 0))
