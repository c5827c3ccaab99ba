use Rattle.std.specs.List.{All}
use Rattle.hp_lit.specs.Fit.{IsFit}
use Rattle.hp_search.proofs.spread.push_apart.Given as goal

abbrev pub invariant-loop-at : goal.invariant-loop-at
invariant-loop-at l = All (IsFit l.sorts) l.lits
