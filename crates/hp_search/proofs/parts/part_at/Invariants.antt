use Rattle.std.proofs.Common.{take}
use Rattle.hp_search.specs.Search.{IsPartOf}
use Rattle.hp_search.proofs.parts.part_at.Given as goal

abbrev pub invariant-loop-at : goal.invariant-loop-at
invariant-loop-at l = IsPartOf l.part (take l.at l.path)
