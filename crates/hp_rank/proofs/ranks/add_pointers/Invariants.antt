use Rattle.std.proofs.Common.{◌≡◌, ◌++◌, take}
use Rattle.hp_rank.specs.Ranks.{pointers}
use Rattle.hp_rank.proofs.ranks.add_pointers.Given as goal

abbrev pub invariant-loop-at : goal.invariant-loop-at
invariant-loop-at l = l.found.items ≡ l.initial.found.items ++ pointers (take l.at l.sorts) (take l.at l.values)
