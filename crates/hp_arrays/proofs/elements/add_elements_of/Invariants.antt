use Rattle.std.proofs.Common.{◌≡◌, drop}
use Rattle.hp_base.specs.Making.{Begins, in_turn}
use Rattle.hp_arrays.specs.Arrays.{element}
use Rattle.hp_arrays.proofs.elements.add_elements_of.Given as goal

abbrev pub invariant-loop-index : goal.invariant-loop-index
invariant-loop-index l = record {
  rest : in_turn (element l.func) l.indexes l.initial.g ≡ in_turn (element l.func) (drop l.index-index l.indexes) l.g;
  begins : Begins l.initial.g l.g;
}
