use Rattle.std.proofs.Common.{◌≡◌, ◌++◌, take}
use Rattle.hp_leaf.specs.Tree.{place_lits}
use Rattle.hp_search.proofs.literals.push_lits.Given as goal

abbrev pub invariant-loop-choice : goal.invariant-loop-choice
invariant-loop-choice l = l.lits ≡ l.initial.lits ++ place_lits l.lines (take l.choice-index l.path)
