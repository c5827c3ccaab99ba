use Rattle.std.proofs.Common.{◌≡◌, drop}
use Rattle.hp_norm.specs.Scopes.{variable_sort}
use Rattle.hp_norm.proofs.sorting.variable_sort.Given as goal

abbrev pub invariant-loop-var : goal.invariant-loop-var
invariant-loop-var l = variable_sort l.vars l.word ≡ variable_sort (drop l.var-index l.vars) l.word
