use Rattle.std.proofs.Common.{◌≡◌, ◌++◌}
use Rattle.hp_local.specs.Rows.{argument_words}
use Rattle.hp_defs.specs.Names.{count, words}
use Rattle.hp_pairs.specs.Shown.{argument_places}
use Rattle.hp_pairs.proofs.point.push_arguments.Given as goal

abbrev pub invariant-loop-place : goal.invariant-loop-place
invariant-loop-place l = l.at ≡ l.fn.at ++ argument_places (words l.names ++ argument_words) (count l.names) l.place l.values
