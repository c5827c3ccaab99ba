use Rattle.std.proofs.Common.{◌≡◌, take, ◌++◌}
use Rattle.std.specs.Prelude.{codes}
use Rattle.std.specs.List.{join_by}
use Rattle.hp_ast.specs.Printing.{term_text}
use Rattle.hp_ast.proofs.printing.+put.Given as goal

abbrev pub invariant-put_arguments-loop-i : goal.invariant-put_arguments-loop-i
invariant-put_arguments-loop-i l = l.out ≡ l.fn.out ++ join_by term_text (codes ", ") (take l.i l.terms)
