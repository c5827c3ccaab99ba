use Rattle.std.proofs.Common.{ℕ, ◌<◌, get_or}
use Rattle.hp_lit.specs.declared.literal.NumLit.{NumLit}
use Rattle.hp_lit.specs.Fit.{IsNumFit}
use Rattle.hp_descent.proofs.fit.are_fit.Given as goal

abbrev pub invariant-loop-at : goal.invariant-loop-at
invariant-loop-at l = (k : ℕ) (d : NumLit) → k < l.at → IsNumFit (get_or l.lits k d)
