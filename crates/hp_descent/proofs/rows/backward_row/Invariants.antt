use Rattle.std.proofs.Common.{◌≡◌, ◌++◌, drop, map, neg_ℤ}
use Rattle.hp_lit.specs.Leaf.{coefficient}
use Rattle.hp_descent.proofs.rows.backward_row.Given as goal

abbrev pub invariant-loop-name : goal.invariant-loop-name
invariant-loop-name l = map (λ n. neg_ℤ (coefficient n l.lit.parts)) l.names ≡ l.coefs ++ map (λ n. neg_ℤ (coefficient n l.lit.parts)) (drop l.name-index l.names)
