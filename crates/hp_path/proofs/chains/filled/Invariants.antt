use Rattle.std.proofs.Common.{◌≡◌, replicate}
use Rattle.hp_path.proofs.chains.filled.Given as goal

abbrev pub invariant-loop-at : goal.invariant-loop-at
invariant-loop-at l = l.numbers ≡ replicate l._at l.number
