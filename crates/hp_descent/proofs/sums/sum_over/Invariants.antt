use Rattle.std.proofs.Common.{◌≡◌, drop, pos}
use Rattle.hp_math.specs.Rational.{whole}
use Rattle.hp_lit.specs.Truth.{name_value}
use Rattle.hp_descent.specs.Values.{sum_at}
use Rattle.hp_descent.proofs.sums.sum_over.Given as goal

abbrev pub invariant-loop-part : goal.invariant-loop-part
invariant-loop-part l = sum_at (name_value l.v.values) (whole (pos 0)) l.parts ≡ sum_at (name_value l.v.values) l.sum (drop l.part-index l.parts)
