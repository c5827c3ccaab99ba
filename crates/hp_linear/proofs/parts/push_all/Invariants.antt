use Rattle.std.proofs.Common.{◌≡◌, ◌++◌, take}
use Rattle.hp_linear.proofs.parts.push_all.Given as goal

abbrev pub invariant-loop-summand : goal.invariant-loop-summand
invariant-loop-summand l = l.summands ≡ l.fn.summands ++ take l.summand-index l.more
