use Rattle.std.proofs.Common.{◌≡◌, ◌++◌, take}
use Rattle.std.specs.Prelude.{codes}
use Rattle.std.specs.List.{flat_map}
use Rattle.std.specs.Fmt.{decimal}
use Rattle.hp_ast.specs.Printing.{line}
use Rattle.hp_model.specs.Written.{row_line}
use Rattle.hp_model.proofs.writing.put_table.Given as goal

abbrev pub invariant-loop-row : goal.invariant-loop-row
invariant-loop-row l = l.out ≡ l.fn.out ++ line (codes "fun " ++ l.table.func ++ codes "/" ++ decimal l.table.args) ++ flat_map row_line (take l.row-index l.table.rows)
