use Rattle.std.proofs.Common.{◌≡◌, take}
use Rattle.hp_flatten.proofs.application.copy_terms.Given as goal

abbrev pub invariant-loop-term : goal.invariant-loop-term
invariant-loop-term l = l.all ≡ take l.term-index l.terms
