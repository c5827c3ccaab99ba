use Rattle.std.proofs.Common.{◌≡◌, drop, ◌++◌, Ok, length}
use Rattle.hp_num.specs.Wide.{◌>>=◌}
use Rattle.hp_rows.specs.Lines.{subtract}
use Rattle.hp_rows.proofs.line.subtract.Given as goal

abbrev pub invariant-loop-at : goal.invariant-loop-at
invariant-loop-at l = record {
  so_far : subtract l.d l.row l.c l.g ≡ (subtract l.d (drop l.at l.row) l.c (drop l.at l.g) >>= λ zs. Ok (l.out ++ zs));
  size : length l.out ≡ l.at;
}
