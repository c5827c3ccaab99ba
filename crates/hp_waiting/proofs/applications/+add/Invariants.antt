use Rattle.std.proofs.Common.{◌≡◌, ◌++◌, drop, map}
use Rattle.hp_terms.specs.Occurring.{joined}
use Rattle.hp_waiting.specs.Waiting.{open_functions}
use Rattle.hp_waiting.proofs.applications.+add.Given as goal

abbrev pub invariant-add_terms-loop-term : goal.invariant-add_terms-loop-term
invariant-add_terms-loop-term l = l.fn.words ++ joined (map (open_functions l.vars) l.terms) ≡ l.words ++ joined (map (open_functions l.vars) (drop l.term-index l.terms))
