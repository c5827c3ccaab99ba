use Rattle.hp_path.specs.Components.{IsCoarser}
use Rattle.hp_path.proofs.Merging.{IsOneTo}
use Rattle.hp_path.proofs.labels.join.Given as goal

abbrev pub invariant-loop-part : goal.invariant-loop-part
invariant-loop-part l = IsCoarser l.initial.labels l.labels × IsOneTo l.labels l.parts l.part-index
