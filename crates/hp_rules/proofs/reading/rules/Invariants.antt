use Rattle.hp_rules.proofs.ClausesRead.{IsBehind}
use Rattle.hp_rules.proofs.reading.rules.Given as goal

abbrev pub invariant-loop-clause : goal.invariant-loop-clause
invariant-loop-clause l = record { behind : IsBehind l.names l.clauses l.clause-index l.ruled }
