use Rattle.std.proofs.Common.{◌≡◌, ◌++◌, drop, map}
use Rattle.hp_lit.specs.Leaf.{coefficient}
use Rattle.hp_descent.proofs.rows.forward_row.Given as goal

abbrev pub invariant-loop-name : goal.invariant-loop-name
invariant-loop-name l = map (λ n. coefficient n l.lit.parts) l.names ≡ l.coefs ++ map (λ n. coefficient n l.lit.parts) (drop l.name-index l.names)
