use Rattle.std.proofs.Common.{◌≡◌, ◌++◌, ◌∷◌}
use Rattle.hp_rows.specs.Lines.{marks}
use Rattle.hp_rows.proofs.chain.row_line.Given as goal

abbrev pub invariant-loop-other : goal.invariant-loop-other
invariant-loop-other l = l.line ≡ l.row.coefs ++ l.row.bound ∷ marks l.other l.at
