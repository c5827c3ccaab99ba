use Rattle.std.proofs.Common.{◌≡◌, map, take}
use Rattle.hp_local.specs.Substitution.{substitute}
use Rattle.hp_cases.specs.Cases.{word_term}
use Rattle.hp_cases.proofs.table.+valued.Given as goal

abbrev pub invariant-valued_all-loop-term : goal.invariant-valued_all-loop-term
invariant-valued_all-loop-term l = l.made ≡ map (substitute (word_term l.names l.values)) (take l.term-index l.all)
