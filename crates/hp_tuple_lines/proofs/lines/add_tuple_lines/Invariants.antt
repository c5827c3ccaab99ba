use Rattle.std.proofs.Common.{◌≡◌, drop}
use Rattle.std.specs.List.{All}
use Rattle.hp_base.specs.Making.{Begins, in_turn}
use Rattle.hp_norm.specs.Sound.{IsSound}
use Rattle.hp_tuple_lines.specs.TupleLines.{FitsOver}
use Rattle.hp_tuple_lines.proofs.Stepping.{clause_lines}
use Rattle.hp_tuple_lines.proofs.lines.add_tuple_lines.Given as goal

abbrev pub invariant-loop-clause : goal.invariant-loop-clause
invariant-loop-clause l = record {
  fit : All (FitsOver l.g.names l.over) l.clauses;
  sound : IsSound l.g;
  rest : in_turn (clause_lines l.over) l.clauses l.initial.g ≡ in_turn (clause_lines l.over) (drop l.clause-index l.clauses) l.g;
  begins : Begins l.initial.g l.g;
}
