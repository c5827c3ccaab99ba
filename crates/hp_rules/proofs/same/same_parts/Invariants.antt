use Rattle.std.proofs.Common.{◌≡◌, drop, length}
use Rattle.hp_rules.specs.Rules.{same_parts}
use Rattle.hp_rules.proofs.same.same_parts.Given as goal

abbrev pub invariant-loop-at : goal.invariant-loop-at
invariant-loop-at l = record {
  size : length l.left ≡ length l.right;
  rest : same_parts l.left l.right ≡ same_parts (drop l.at l.left) (drop l.at l.right);
}
