use Rattle.std.proofs.Common.{◌≡◌, drop, pos}
use Rattle.hp_math.specs.Rational.{whole}
use Rattle.hp_descent.specs.Values.{sum_at, value_in}
use Rattle.hp_descent.proofs.sums.sum_among.Given as goal

abbrev pub invariant-loop-part : goal.invariant-loop-part
invariant-loop-part l = sum_at (value_in l.values) (whole (pos 0)) l.parts ≡ sum_at (value_in l.values) l.sum (drop l.part-index l.parts)
