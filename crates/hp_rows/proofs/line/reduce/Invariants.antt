use Rattle.std.proofs.Common.{◌≡◌, take, reverse, Ok, length}
use Rattle.hp_rows.specs.Lines.{reduce}
use Rattle.hp_rows.proofs.line.reduce.Given as goal

abbrev pub invariant-loop-at : goal.invariant-loop-at
invariant-loop-at l = record {
  so_far : reduce (reverse (take l.at l.lines)) l.fn.row ≡ Ok l.line;
  size : length l.line ≡ length l.fn.row;
}
