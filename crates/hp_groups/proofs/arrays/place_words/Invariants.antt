use Rattle.std.proofs.Common.{◌≡◌, ◌++◌, drop}
use Rattle.hp_ruled.specs.Laws.{place_words}
use Rattle.hp_groups.proofs.arrays.place_words.Given as goal

abbrev pub invariant-loop-func : goal.invariant-loop-func
invariant-loop-func l = place_words l.names.signatures l.funcs ≡ l.words ++ place_words l.names.signatures (drop l.func-index l.funcs)
