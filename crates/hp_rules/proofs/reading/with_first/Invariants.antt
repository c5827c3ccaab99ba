use Rattle.std.proofs.Common.{◌≡◌, ◌∷◌, take}
use Rattle.hp_rules.proofs.reading.with_first.Given as goal

abbrev pub invariant-loop-other : goal.invariant-loop-other
invariant-loop-other l = l.all ≡ l.func ∷ take l.other-index l.funcs
