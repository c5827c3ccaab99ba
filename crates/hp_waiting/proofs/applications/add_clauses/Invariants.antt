use Rattle.std.proofs.Common.{◌≡◌, ◌++◌, drop}
use Rattle.std.specs.List.{flat_map}
use Rattle.hp_waiting.specs.Waiting.{clause_functions}
use Rattle.hp_waiting.proofs.applications.add_clauses.Given as goal

abbrev pub invariant-loop-clause : goal.invariant-loop-clause
invariant-loop-clause l = l.fn.words ++ flat_map clause_functions l.clauses ≡ l.words ++ flat_map clause_functions (drop l.clause-index l.clauses)
