use Rattle.std.proofs.Common.{◌≡◌, drop}
use Rattle.std.specs.List.{All}
use Rattle.hp_base.specs.Making.{Begins, in_turn}
use Rattle.hp_norm.specs.Sound.{IsSound}
use Rattle.hp_cases.specs.Cases.{FitsTuples, clause_lines}
use Rattle.hp_cases.proofs.instances.add_instances.Given as goal

abbrev pub invariant-loop-clause : goal.invariant-loop-clause
invariant-loop-clause l = record {
  fit : All (FitsTuples l.g.names l.tuples) l.clauses;
  sound : IsSound l.g;
  rest : in_turn (clause_lines l.tuples) l.clauses l.initial.g ≡ in_turn (clause_lines l.tuples) (drop l.clause-index l.clauses) l.g;
  begins : Begins l.initial.g l.g;
}
