use Rattle.std.proofs.Common.{◌≡◌, take, map}
use Rattle.hp_linear.specs.Lins.{neg_part}
use Rattle.hp_linear.proofs.parts.negated.Given as goal

abbrev pub invariant-loop-summand : goal.invariant-loop-summand
invariant-loop-summand l = l.all ≡ map neg_part (take l.summand-index l.summands)
