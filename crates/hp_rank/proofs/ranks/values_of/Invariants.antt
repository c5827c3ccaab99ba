use Rattle.std.proofs.Common.{◌≡◌, take}
use Rattle.hp_rank.specs.Ranks.{place_in, ranked_values}
use Rattle.hp_rank.proofs.ranks.values_of.Given as goal

abbrev pub invariant-loop-at : goal.invariant-loop-at
invariant-loop-at l = l.ranked ≡ ranked_values (place_in l.inside l.beside) (take l.at l.sorts) (take l.at l.values)
