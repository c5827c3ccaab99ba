use Rattle.std.proofs.Common.{◌≡◌, ◌+◌, drop}
use Rattle.hp_sorts.specs.Faults.{clauses_fault}
use Rattle.hp_sorts.proofs.clauses.check_clauses.Given as goal

abbrev pub invariant-loop-clause : goal.invariant-loop-clause
invariant-loop-clause l = record {
  item : l.item ≡ l.before + l.clause-index;
  fault : clauses_fault l.tables l.before l.clauses ≡ clauses_fault l.tables l.item (drop l.clause-index l.clauses);
}
