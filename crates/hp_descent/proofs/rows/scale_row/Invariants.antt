use Rattle.std.proofs.Common.{◌≡◌, ◌++◌, drop, map, pos, ℕ}
use Rattle.hp_descent.proofs.rows.scale_row.Given as goal

abbrev pub invariant-loop-name : goal.invariant-loop-name
invariant-loop-name l = map (λ (n : ℕ). pos 0) l.names ≡ l.coefs ++ map (λ (n : ℕ). pos 0) (drop l._name-index l.names)
