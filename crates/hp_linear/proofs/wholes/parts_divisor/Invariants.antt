use Rattle.std.proofs.Common.{◌≡◌, ◌<◌, ◌^◌, drop}
use Rattle.hp_linear.specs.Wholes.{parts_divisor}
use Rattle.hp_linear.proofs.wholes.parts_divisor.Given as goal

abbrev pub invariant-loop-part : goal.invariant-loop-part
invariant-loop-part l = (parts_divisor 0 l.parts ≡ parts_divisor l.divisor (drop l.part-index l.parts)) × (l.divisor < 2 ^ 127)
