use Rattle.std.proofs.Common.{◌≡◌, drop}
use Rattle.hp_norm.specs.Testing.{with_words}
use Rattle.hp_index_set.specs.IndexSet.{var_words}
use Rattle.hp_index_set.proofs.words.add_variables.Given as goal

abbrev pub invariant-loop-var : goal.invariant-loop-var
invariant-loop-var l = with_words l.fn.words (var_words l.vars) ≡ with_words l.words (var_words (drop l.var-index l.vars))
