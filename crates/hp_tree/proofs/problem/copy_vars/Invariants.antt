use Rattle.std.proofs.Common.{◌≡◌, take}
use Rattle.hp_tree.proofs.problem.copy_vars.Given as goal

abbrev pub invariant-loop-var : goal.invariant-loop-var
invariant-loop-var l = l.all ≡ take l.var-index l.vars
