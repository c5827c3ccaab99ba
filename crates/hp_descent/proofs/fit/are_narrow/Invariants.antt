use Rattle.std.proofs.Common.{ℕ, ◌<◌, ◌^◌, get_or, unsigned_abs}
use Rattle.hp_lit.specs.declared.literal.Part.{Part}
use Rattle.hp_descent.proofs.fit.are_narrow.Given as goal

abbrev pub invariant-loop-part : goal.invariant-loop-part
invariant-loop-part l = (k : ℕ) (d : Part) → k < l.part-index → unsigned_abs (get_or l.parts k d).coef < 2 ^ 127
