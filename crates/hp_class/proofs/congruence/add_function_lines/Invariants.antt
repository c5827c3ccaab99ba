use Rattle.hp_class.specs.Points.{function_lines}
use Rattle.hp_class.proofs.Pairing.{IsTurned}
use Rattle.hp_class.proofs.congruence.add_function_lines.Given as goal

abbrev pub invariant-loop-func : goal.invariant-loop-func
invariant-loop-func l = IsTurned function_lines l.funcs l.func-index l.initial.g l.g
