use Rattle.std.proofs.Common.{◌≡◌, ◌++◌, drop}
use Rattle.hp_rules.specs.Rules.{num_rows}
use Rattle.hp_rules.proofs.rows.num_rows.Given as goal

abbrev pub invariant-loop-lit : goal.invariant-loop-lit
invariant-loop-lit l = num_rows l.lits ≡ l.rows ++ num_rows (drop l.lit-index l.lits)
