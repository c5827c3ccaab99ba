use Rattle.std.proofs.Common.{◌≤◌, length}
use Rattle.std.specs.List.{All}
use Rattle.hp_search.specs.inner.Singles.{IsSingleOf}
use Rattle.hp_search.proofs.singles.singles_of.Given as goal

abbrev pub invariant-loop-at : goal.invariant-loop-at
invariant-loop-at l = All (IsSingleOf l.lines) l.singles × (length l.singles ≤ l.at)
