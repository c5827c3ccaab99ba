use Rattle.std.proofs.Common.{◌≡◌, drop, map}
use Rattle.hp_norm.specs.Trees.{all_same, same_term}
use Rattle.hp_norm.proofs.trees.+same.Given as goal

abbrev pub invariant-all_same-loop-at : goal.invariant-all_same-loop-at
invariant-all_same-loop-at l = all_same (map same_term l.left) l.right ≡ all_same (map same_term (drop l.at l.left)) (drop l.at l.right)
