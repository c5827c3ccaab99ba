use Rattle.std.proofs.Common.{◌≡◌, map, take}
use Rattle.hp_lit.specs.declared.literal.Lit.TheVariants.{Num}
use Rattle.hp_simplex.proofs.checks.copies.Given as goal

abbrev pub invariant-loop-at : goal.invariant-loop-at
invariant-loop-at l = l.copies ≡ map Num (take l.at l.lits)
