use Rattle.std.specs.List.{All}
use Rattle.hp_pairs.specs.Answers.{IsUnmet}
use Rattle.hp_pairs.specs.Branches.{pairs_from}
use Rattle.hp_pairs.proofs.pairs.separate.Given as goal

abbrev pub invariant-loop-func : goal.invariant-loop-func
invariant-loop-func l = All IsUnmet (pairs_from l.branches 0 l.func)
