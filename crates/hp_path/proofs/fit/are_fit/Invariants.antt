use Rattle.std.proofs.Common.{ℕ, ◌<◌, get_or}
use Rattle.hp_lit.specs.declared.literal.Lit.{Lit}
use Rattle.hp_lit.specs.Fit.{IsFit}
use Rattle.hp_path.proofs.fit.are_fit.Given as goal

abbrev pub invariant-loop-lit : goal.invariant-loop-lit
invariant-loop-lit l = (k : ℕ) (d : Lit) → k < l.lit-index → IsFit l.sorts (get_or l.lits k d)
