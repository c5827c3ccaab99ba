use Rattle.std.proofs.Common.{◌≡◌, ◌++◌, drop, Ok}
use Rattle.hp_num.specs.Wide.{◌>>=◌}
use Rattle.hp_rules.specs.Rules.{num_rows, rows_of}
use Rattle.hp_rules.proofs.rows.rows_of.Given as goal

abbrev pub invariant-loop-atom : goal.invariant-loop-atom
invariant-loop-atom l = rows_of l.words l.atoms ≡ (rows_of l.words (drop l.atom-index l.atoms) >>= λ more. Ok (num_rows l.lits ++ more))
