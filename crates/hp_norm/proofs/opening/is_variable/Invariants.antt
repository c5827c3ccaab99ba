use Rattle.std.proofs.Common.{◌≡◌, drop}
use Rattle.hp_norm.specs.Opening.{is_variable}
use Rattle.hp_norm.proofs.opening.is_variable.Given as goal

abbrev pub invariant-loop-var : goal.invariant-loop-var
invariant-loop-var l = is_variable l.vars l.word ≡ is_variable (drop l.var-index l.vars) l.word
