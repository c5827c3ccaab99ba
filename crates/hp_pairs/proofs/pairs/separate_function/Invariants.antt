use Rattle.std.proofs.Common.{[], take}
use Rattle.std.specs.List.{All}
use Rattle.hp_pairs.specs.Answers.{IsUnmet}
use Rattle.hp_pairs.specs.Branches.{branches_of, pairs_behind}
use Rattle.hp_pairs.proofs.pairs.separate_function.Given as goal

abbrev pub invariant-loop-at : goal.invariant-loop-at
invariant-loop-at l = All IsUnmet (pairs_behind [] (branches_of l.func (take l.at l.branches)))
