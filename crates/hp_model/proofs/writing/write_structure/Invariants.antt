use Rattle.std.proofs.Common.{◌≡◌, ◌++◌, take}
use Rattle.std.specs.List.{flat_map}
use Rattle.hp_model.specs.Written.{const_line, table_text, universe_line}
use Rattle.hp_model.proofs.writing.write_structure.Given as goal

abbrev pub invariant-loop-constant : goal.invariant-loop-constant
invariant-loop-constant l = l.out ≡ universe_line l.structure.universe ++ flat_map const_line (take l.constant-index l.structure.consts)

abbrev pub invariant-loop-table : goal.invariant-loop-table
invariant-loop-table l =
    l.out ≡ universe_line l.structure.universe ++ flat_map const_line l.structure.consts ++ flat_map table_text (take l.table-index l.structure.tables)
