use Rattle.std.proofs.Common.{◌≡◌, drop}
use Rattle.hp_descent.specs.Values.{value_in}
use Rattle.hp_pairs.proofs.point.value_among.Given as goal

abbrev pub invariant-loop-at : goal.invariant-loop-at
invariant-loop-at l = value_in l.values l.name ≡ value_in (drop l.at l.values) l.name
