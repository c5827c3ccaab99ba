use Rattle.std.proofs.Common.{◌≡◌, drop, length}
use Rattle.hp_rules.specs.Rules.{same_rows}
use Rattle.hp_rules.proofs.same.same_rows.Given as goal

abbrev pub invariant-loop-at : goal.invariant-loop-at
invariant-loop-at l = record {
  size : length l.left ≡ length l.right;
  rest : same_rows l.left l.right ≡ same_rows (drop l.at l.left) (drop l.at l.right);
}
