use Rattle.std.proofs.Common.{◌≡◌, ◌++◌, drop, map}
use Rattle.hp_terms.specs.Occurring.{joined}
use Rattle.hp_flatten.specs.Applications.{applications}
use Rattle.hp_flatten.proofs.application.+add_term.Given as goal

abbrev pub invariant-add_terms-loop-term : goal.invariant-add_terms-loop-term
invariant-add_terms-loop-term l = l.fn.found ++ joined (map applications l.terms) ≡ l.found ++ joined (map applications (drop l.term-index l.terms))
