use Rattle.std.proofs.Common.{map, take}
use Rattle.std.specs.List.{All}
use Rattle.hp_pairs.specs.Answers.{IsUnmet}
use Rattle.hp_pairs.specs.Branches.{branches_of, overlap}
use Rattle.hp_pairs.proofs.pairs.separate_guards.Given as goal

abbrev pub invariant-loop-at : goal.invariant-loop-at
invariant-loop-at l = All IsUnmet (map (overlap l.branch) (branches_of l.func (take l.at l.earlier)))
