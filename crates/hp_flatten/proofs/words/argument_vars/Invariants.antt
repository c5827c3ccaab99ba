use Rattle.std.proofs.Common.{◌≡◌, map, take}
use Rattle.hp_local.specs.Rows.{argument_words}
use Rattle.hp_flatten.specs.Flattening.{argument_var}
use Rattle.hp_flatten.proofs.words.argument_vars.Given as goal

abbrev pub invariant-loop-place : goal.invariant-loop-place
invariant-loop-place l = l.vars ≡ map argument_var (take l.place argument_words)
