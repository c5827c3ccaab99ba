use Rattle.std.proofs.Common.{◌≡◌, ◌+◌, ◌-◌}
use Rattle.hp_terms.specs.Words.{numbered}
use Rattle.hp_norm.specs.Testing.{with_words}
use Rattle.hp_index_set.proofs.words.add_numbered.Given as goal

abbrev pub invariant-loop-at : goal.invariant-loop-at
invariant-loop-at l = with_words l.fn.words (numbered 1 l.count) ≡ with_words l.words (numbered (l.at + 1) (l.count - l.at))
