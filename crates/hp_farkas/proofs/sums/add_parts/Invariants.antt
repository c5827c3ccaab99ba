use Rattle.std.proofs.Common.{◌≡◌, drop}
use Rattle.hp_farkas.specs.Sums.{add_parts}
use Rattle.hp_farkas.proofs.sums.add_parts.Given as goal

abbrev pub invariant-loop-part : goal.invariant-loop-part
invariant-loop-part l = add_parts l.name.0 l.multiplier l.sum l.parts ≡ add_parts l.name.0 l.multiplier l.total.sum (drop l.part-index l.parts)
