use Rattle.std.proofs.Common.{◌-◌, length}
use Rattle.hp_path.proofs.Chained.{IsGathered}
use Rattle.hp_path.proofs.components.component_of.Given as goal

abbrev pub invariant-chain : goal.invariant-chain
invariant-chain l = IsGathered l.labelled.labels l.label l.parts.nums l.parts.num_places l.at l.nums l.places

abbrev pub decreases-chain : goal.decreases-chain
decreases-chain l = length l.parts.nums - l.at
