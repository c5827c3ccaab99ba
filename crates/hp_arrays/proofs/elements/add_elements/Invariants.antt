use Rattle.std.proofs.Common.{◌≡◌, drop}
use Rattle.hp_base.specs.Making.{Begins, in_turn}
use Rattle.hp_arrays.specs.Arrays.{elements}
use Rattle.hp_arrays.proofs.elements.add_elements.Given as goal

abbrev pub invariant-loop-func : goal.invariant-loop-func
invariant-loop-func l = record {
  rest : in_turn (elements l.indexes) l.own l.initial.g ≡ in_turn (elements l.indexes) (drop l.func-index l.own) l.g;
  begins : Begins l.initial.g l.g;
}
