use Rattle.hp_class.proofs.Pairing.{IsPaired}
use Rattle.hp_class.proofs.congruence.lines_at.Given as goal

abbrev pub invariant-loop-at : goal.invariant-loop-at
invariant-loop-at l = IsPaired l.func l.places l.at l.initial.g l.g
