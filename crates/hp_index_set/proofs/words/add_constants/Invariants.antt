use Rattle.std.proofs.Common.{◌≡◌, drop, map}
use Rattle.hp_defs.specs.Names.{constant_name}
use Rattle.hp_norm.specs.Testing.{with_words}
use Rattle.hp_index_set.proofs.words.add_constants.Given as goal

abbrev pub invariant-loop-constant : goal.invariant-loop-constant
invariant-loop-constant l = with_words l.fn.words (map constant_name l.constants) ≡ with_words l.words (map constant_name (drop l.constant-index l.constants))
