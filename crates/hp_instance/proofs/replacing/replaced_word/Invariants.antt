use Rattle.std.proofs.Common.{◌≡◌, drop}
use Rattle.hp_instance.specs.Replacing.{replaced_word}
use Rattle.hp_instance.proofs.replacing.replaced_word.Given as goal

abbrev pub invariant-loop-at : goal.invariant-loop-at
invariant-loop-at l = replaced_word l.vars l.terms l.word ≡ replaced_word (drop l.at l.vars) (drop l.at l.terms) l.word
