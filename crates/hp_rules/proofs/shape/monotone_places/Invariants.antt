use Rattle.std.proofs.Common.{◌≡◌, ◌++◌, drop}
use Rattle.hp_rules.specs.Rules.{monotone_places}
use Rattle.hp_rules.proofs.shape.monotone_places.Given as goal

abbrev pub invariant-loop-clause : goal.invariant-loop-clause
invariant-loop-clause l = monotone_places l.names l.clauses ≡ l.places ++ monotone_places l.names (drop l.clause-index l.clauses)
