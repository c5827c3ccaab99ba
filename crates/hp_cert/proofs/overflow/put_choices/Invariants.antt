use Rattle.std.proofs.Common.{◌≡◌, take, ◌++◌}
use Rattle.std.specs.List.{flat_map}
use Rattle.hp_cert.specs.Overflow.{choice_text}
use Rattle.hp_cert.proofs.overflow.put_choices.Given as goal

abbrev pub invariant-loop-choice : goal.invariant-loop-choice
invariant-loop-choice l = l.out ≡ l.fn.out ++ flat_map choice_text (take l.choice-index l.choices)
