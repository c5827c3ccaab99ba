use Rattle.std.proofs.Common.{◌≡◌, ◌++◌, take}
use Rattle.hp_local.specs.Rows.{argument_words}
use Rattle.hp_defs.specs.Names.{count, words}
use Rattle.hp_pairs.specs.Shown.{named_places}
use Rattle.hp_pairs.proofs.point.push_named.Given as goal

abbrev pub invariant-loop-k : goal.invariant-loop-k
invariant-loop-k l = l.at ≡ l.fn.at ++ named_places (words l.names ++ argument_words) (count l.names) (take l.k l.values)
