use Rattle.hp_tables.proofs.PairLoops.{IsPlanned}
use Rattle.hp_tables.proofs.pairs.add_pair_lines.Given as goal

abbrev pub invariant-loop-lower : goal.invariant-loop-lower
invariant-loop-lower l = IsPlanned l.clause l.first_lower l.places l.lower-index l.initial.g l.g
