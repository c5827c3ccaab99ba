use Rattle.std.proofs.Common.{◌≡◌, drop}
use Rattle.hp_norm.specs.Testing.{variable_words, with_words}
use Rattle.hp_norm.proofs.standing.add_variables.Given as goal

abbrev pub invariant-loop-var : goal.invariant-loop-var
invariant-loop-var l = with_words l.fn.words (variable_words l.vars) ≡ with_words l.words (variable_words (drop l.var-index l.vars))
