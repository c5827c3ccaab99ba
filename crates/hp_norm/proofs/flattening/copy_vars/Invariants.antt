use Rattle.std.proofs.Common.{◌≡◌, take}
use Rattle.hp_norm.proofs.flattening.copy_vars.Given as goal

abbrev pub invariant-loop-var : goal.invariant-loop-var
invariant-loop-var l = l.all ≡ take l.var-index l.vars
