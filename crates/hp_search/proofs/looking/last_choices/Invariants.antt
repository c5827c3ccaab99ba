use Rattle.std.proofs.Common.{◌≤◌, length}
use Rattle.hp_search.proofs.looking.last_choices.Given as goal

abbrev pub invariant-loop-at : goal.invariant-loop-at
invariant-loop-at l = length l.last ≤ l.at
