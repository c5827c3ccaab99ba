use Rattle.std.proofs.Common.{◌≡◌, drop}
use Rattle.hp_base.specs.Making.{Begins, in_turn}
use Rattle.hp_norm.specs.Sound.{IsSound}
use Rattle.hp_instance.specs.Instances.{instance}
use Rattle.hp_cases.specs.Cases.{FitsTuples}
use Rattle.hp_cases.proofs.instances.add_instances_of.Given as goal

abbrev pub invariant-loop-tuple : goal.invariant-loop-tuple
invariant-loop-tuple l = record {
  fit : FitsTuples l.g.names l.tuples l.clause;
  sound : IsSound l.g;
  rest : in_turn (instance l.clause) l.tuples l.initial.g ≡ in_turn (instance l.clause) (drop l.tuple-index l.tuples) l.g;
  begins : Begins l.initial.g l.g;
}
