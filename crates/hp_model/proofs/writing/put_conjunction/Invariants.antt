use Rattle.std.proofs.Common.{◌≡◌, take, ◌++◌}
use Rattle.std.specs.Prelude.{codes}
use Rattle.std.specs.List.{join_by}
use Rattle.hp_ast.specs.Printing.{atom_text}
use Rattle.hp_model.proofs.writing.put_conjunction.Given as goal

abbrev pub invariant-loop-i : goal.invariant-loop-i
invariant-loop-i l = l.out ≡ l.fn.out ++ join_by atom_text (codes " & ") (take l.i l.atoms)
