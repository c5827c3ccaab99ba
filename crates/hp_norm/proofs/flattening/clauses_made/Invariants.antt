use Rattle.hp_norm.proofs.FlatSteps.{IsFlattened}
use Rattle.hp_norm.proofs.flattening.clauses_made.Given as goal

abbrev pub invariant-loop-at : goal.invariant-loop-at
invariant-loop-at l = IsFlattened l.before l.clauses l.at l.flats l.fn.ground l.ground
