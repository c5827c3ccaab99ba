use Rattle.std.proofs.Common.{◌≡◌, take, map}
use Rattle.hp_linear.specs.Wholes.{over}
use Rattle.hp_linear.proofs.wholes.parts_over.Given as goal

abbrev pub invariant-loop-part : goal.invariant-loop-part
invariant-loop-part l = l.all ≡ map (over l.divisor) (take l.part-index l.parts)
