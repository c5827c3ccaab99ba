use Rattle.std.proofs.Common.{◌≡◌, take}
use Rattle.hp_tree.proofs.problem.copy_decls.Given as goal

abbrev pub invariant-loop-decl : goal.invariant-loop-decl
invariant-loop-decl l = l.all ≡ take l.decl-index l.decls
