use Rattle.std.proofs.Common.{◌≡◌, None, drop}
use Rattle.hp_waiting.specs.Waiting.{are_level}
use Rattle.hp_waiting.proofs.waiting.are_level.Given as goal

abbrev pub invariant-loop-word : goal.invariant-loop-word
invariant-loop-word l = are_level l.decls None l.words ≡ are_level l.decls l.level (drop l.word-index l.words)
