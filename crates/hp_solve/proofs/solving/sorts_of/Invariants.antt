use Rattle.std.proofs.Common.{◌≡◌, take}
use Rattle.hp_defs.specs.Names.{sorts}
use Rattle.hp_solve.proofs.solving.sorts_of.Given as goal

abbrev pub invariant-loop-at : goal.invariant-loop-at
invariant-loop-at l = l.found ≡ take l.at (sorts l.names)
