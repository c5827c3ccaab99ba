use Rattle.std.proofs.Common.{◌≡◌, false, replicate}
use Rattle.hp_path.proofs.components.none_done.Given as goal

abbrev pub invariant-loop-at : goal.invariant-loop-at
invariant-loop-at l = l.done ≡ replicate l._at false
