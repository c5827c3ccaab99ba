use Rattle.std.proofs.Common.{◌≡◌, ◌<◌, length, take}
use Rattle.std.specs.List.{All}
use Rattle.hp_path.specs.Components.{IsOneLabel}
use Rattle.hp_path.proofs.labels.labels_of.Given as goal

abbrev pub invariant-loop-lit : goal.invariant-loop-lit
invariant-loop-lit l = record {
  count : length l.labels ≡ length l.sorts;
  one : All (λ num. IsOneLabel l.labels num.parts) (take l.lit-index l.nums);
  below : All (λ label. label < length l.labels) l.labels;
}
