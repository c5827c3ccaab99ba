use Rattle.std.proofs.Common.{◌≡◌, drop}
use Rattle.hp_linear.specs.Steps.{behind}
use Rattle.hp_linear.specs.Lins.{times_parts}
use Rattle.hp_linear.proofs.parts.multiplied.Given as goal

abbrev pub invariant-loop-summand : goal.invariant-loop-summand
invariant-loop-summand l = times_parts l.number l.summands ≡ behind l.all (times_parts l.number (drop l.summand-index l.summands))
