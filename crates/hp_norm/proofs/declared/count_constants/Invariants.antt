use Rattle.std.proofs.Common.{◌≡◌, ◌≤◌, ◌+◌, drop, length}
use Rattle.hp_norm.specs.Lines.{constants_of}
use Rattle.hp_norm.proofs.declared.count_constants.Given as goal

abbrev pub invariant-loop-decl : goal.invariant-loop-decl
invariant-loop-decl l = (l.count ≤ l.decl-index) × (l.count + length (constants_of (drop l.decl-index l.decls)) ≡ length (constants_of l.decls))
