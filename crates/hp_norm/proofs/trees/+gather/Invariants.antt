use Rattle.std.proofs.Common.{◌≡◌, drop, map}
use Rattle.hp_norm.specs.Trees.{gathered, one_by_one}
use Rattle.hp_norm.proofs.trees.+gather.Given as goal

abbrev pub invariant-gather_all-loop-term : goal.invariant-gather_all-loop-term
invariant-gather_all-loop-term l = one_by_one (map gathered l.terms) l.fn.apps ≡ one_by_one (map gathered (drop l.term-index l.terms)) l.apps
