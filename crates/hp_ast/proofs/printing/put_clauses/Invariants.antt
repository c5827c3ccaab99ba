use Rattle.std.proofs.Common.{◌≡◌, take, ◌++◌}
use Rattle.std.specs.List.{flat_map}
use Rattle.hp_ast.specs.Printing.{clause_text, line}
use Rattle.hp_ast.proofs.printing.put_clauses.Given as goal

abbrev pub invariant-loop-clause : goal.invariant-loop-clause
invariant-loop-clause l = l.out ≡ l.fn.out ++ flat_map (λ clause. line (clause_text clause)) (take l.clause-index l.clauses)
