use Rattle.std.proofs.Common.{◌≡◌, ◌++◌, map, take}
use Rattle.hp_local.specs.Cases.{case_row}
use Rattle.hp_cases.specs.Cases.{table_case}
use Rattle.hp_cases.proofs.table.push_rows.Given as goal

abbrev pub invariant-loop-case : goal.invariant-loop-case
invariant-loop-case l = l.rows ≡ l.initial.rows ++ map case_row (map (table_case l.names l.values) (take l.case-index l.cases))
