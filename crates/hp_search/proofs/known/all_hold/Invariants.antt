use Rattle.std.proofs.Common.{ℕ, ◌<◌, get_or}
use Rattle.hp_lit.specs.declared.literal.Lit.{Lit}
use Rattle.hp_lit.specs.Truth.{IsTrueAt}
use Rattle.hp_search.proofs.known.all_hold.Given as goal

abbrev pub invariant-loop-lit : goal.invariant-loop-lit
invariant-loop-lit l = (k : ℕ) (d : Lit) → k < l.lit-index → IsTrueAt l.v.values (get_or l.lits k d)
