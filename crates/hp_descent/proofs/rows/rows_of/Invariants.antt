use Rattle.std.proofs.Common.{◌≡◌, ◌++◌, ◌∷◌, drop}
use Rattle.hp_descent.specs.LiteralRows.{scale_row, rows_over}
use Rattle.hp_descent.proofs.rows.rows_of.Given as goal

abbrev pub invariant-loop-at : goal.invariant-loop-at
invariant-loop-at l = scale_row l.names ∷ rows_over l.names l.lits ≡ l.rows ++ rows_over l.names (drop l.at l.lits)
