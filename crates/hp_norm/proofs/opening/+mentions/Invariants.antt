use Rattle.std.proofs.Common.{◌≡◌, drop, map}
use Rattle.std.specs.List.{list_any}
use Rattle.hp_norm.specs.Opening.{mentions}
use Rattle.hp_norm.proofs.opening.+mentions.Given as goal

abbrev pub invariant-mentions_any-loop-term : goal.invariant-mentions_any-loop-term
invariant-mentions_any-loop-term l = list_any (λ b. b) (map (mentions l.vars) l.terms) ≡ list_any (λ b. b) (map (mentions l.vars) (drop l.term-index l.terms))
