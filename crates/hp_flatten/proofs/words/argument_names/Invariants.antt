use Rattle.std.proofs.Common.{◌≡◌, map, take}
use Rattle.hp_tree.specs.declared.term.Term.{Name}
use Rattle.hp_local.specs.Rows.{argument_words}
use Rattle.hp_flatten.proofs.words.argument_names.Given as goal

abbrev pub invariant-loop-place : goal.invariant-loop-place
invariant-loop-place l = l.names ≡ map Name (take l.place argument_words)
