use Rattle.hp_base.specs.Congruence.{congruence_at}
use Rattle.hp_class.proofs.Pairing.{IsTurned}
use Rattle.hp_class.proofs.congruence.lines_with.Given as goal

abbrev pub invariant-loop-right : goal.invariant-loop-right
invariant-loop-right l = IsTurned (congruence_at l.func l.left) l.others l.right-index l.initial.g l.g
