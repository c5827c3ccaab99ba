use Rattle.std.proofs.Common.{◌≡◌, take, ◌++◌}
use Rattle.std.specs.List.{flat_map}
use Rattle.hp_ast.specs.Printing.{decl_text, line}
use Rattle.hp_ast.proofs.printing.put_decls.Given as goal

abbrev pub invariant-loop-decl : goal.invariant-loop-decl
invariant-loop-decl l = l.out ≡ l.fn.out ++ flat_map (λ decl. line (decl_text decl)) (take l.decl-index l.decls)
