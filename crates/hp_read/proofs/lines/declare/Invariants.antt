use Rattle.std.proofs.Common.{◌≡◌, ◌++◌, take}
use Rattle.hp_grammar.specs.Declarations.{constants_of}
use Rattle.hp_read.proofs.lines.declare.Given as goal

abbrev pub invariant-loop-name : goal.invariant-loop-name
invariant-loop-name l = l.decls ≡ l.initial.decls ++ constants_of (take l.name-index l.name-items) l.sort
