use Rattle.hp_tables.proofs.PairLoops.{IsBelow}
use Rattle.hp_tables.proofs.pairs.add_lines_below.Given as goal

abbrev pub invariant-loop-upper : goal.invariant-loop-upper
invariant-loop-upper l = IsBelow l.clause l.first_lower l.lower l.places l.upper-index l.initial.g l.g
