use Rattle.std.proofs.Common.{take}
use Rattle.hp_search.specs.inner.Spread.{AreValuesOf}
use Rattle.hp_search.proofs.known.values_by.Given as goal

abbrev pub invariant-loop-at : goal.invariant-loop-at
invariant-loop-at l = AreValuesOf (take l.at l.sorts) l.values
