use Rattle.std.proofs.Common.{◌≡◌, [], drop}
use Rattle.hp_waiting.specs.Waiting.{functions_from, words_from}
use Rattle.hp_waiting.proofs.functions.declared_functions.Given as goal

abbrev pub invariant-loop-decl : goal.invariant-loop-decl
invariant-loop-decl l =
    (words_from [] l.decls ≡ words_from l.words (drop l.decl-index l.decls)) × (functions_from [] [] l.decls ≡ functions_from l.words l.functions (drop l.decl-index l.decls))
