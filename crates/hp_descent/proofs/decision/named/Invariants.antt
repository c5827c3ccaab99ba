use Rattle.std.proofs.Common.{◌≡◌, map, take}
use Rattle.hp_descent.proofs.decision.named.Given as goal

abbrev pub invariant-loop-at : goal.invariant-loop-at
invariant-loop-at l = record {
  names : map (λ nv. nv.name.0) l.named ≡ take l.at l.names;
  values : map (λ nv. nv.value) l.named ≡ take l.at l.values;
}
