use Rattle.std.proofs.Common.{◌≡◌, map, take}
use Rattle.hp_simplex.proofs.deciding.named.Given as goal

abbrev pub invariant-loop-at : goal.invariant-loop-at
invariant-loop-at l = map (λ nv. nv.name.0) l.values ≡ take l.at l.names
