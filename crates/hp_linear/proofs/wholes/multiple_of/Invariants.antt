use Rattle.std.proofs.Common.{◌≡◌, drop}
use Rattle.hp_linear.specs.Wholes.{multiple_of}
use Rattle.hp_linear.proofs.wholes.multiple_of.Given as goal

abbrev pub invariant-loop-summand : goal.invariant-loop-summand
invariant-loop-summand l = multiple_of 1 l.summands ≡ multiple_of l.multiple (drop l.summand-index l.summands)
