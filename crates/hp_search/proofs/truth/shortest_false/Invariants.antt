use Rattle.hp_search.proofs.Judging.{IsBestSoFar}
use Rattle.hp_search.proofs.truth.shortest_false.Given as goal

abbrev pub invariant-loop-at : goal.invariant-loop-at
invariant-loop-at l = IsBestSoFar l.lines l.v.values l.at l.best l.wide_sum
