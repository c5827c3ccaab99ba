use Rattle.std.proofs.Common.{◌≡◌, drop}
use Rattle.std.specs.List.{All}
use Rattle.hp_linear.specs.Steps.{behind}
use Rattle.hp_linear.specs.Wholes.{IsNarrowPart, scaled_parts}
use Rattle.hp_linear.proofs.wholes.scaled_parts.Given as goal

abbrev pub invariant-loop-summand : goal.invariant-loop-summand
invariant-loop-summand l =
    (scaled_parts l.multiple l.summands ≡ behind l.parts (scaled_parts l.multiple (drop l.summand-index l.summands))) × All IsNarrowPart l.parts
