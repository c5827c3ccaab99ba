use Rattle.hp_search.proofs.Judging.{JudgesSoFar}
use Rattle.hp_search.proofs.truth.line_truth.Given as goal

abbrev pub invariant-loop-at : goal.invariant-loop-at
invariant-loop-at l = JudgesSoFar l.v.values l.line.lits l.at l.truth
