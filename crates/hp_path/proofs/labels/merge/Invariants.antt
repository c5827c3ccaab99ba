use Rattle.std.proofs.Common.{◌≡◌, ◌++◌, take, drop, map}
use Rattle.hp_path.specs.Components.{merged}
use Rattle.hp_path.proofs.labels.merge.Given as goal

abbrev pub invariant-loop-at : goal.invariant-loop-at
invariant-loop-at l = l.labels ≡ map (merged l.kept l.gone) (take l.at l.initial.labels) ++ drop l.at l.initial.labels
