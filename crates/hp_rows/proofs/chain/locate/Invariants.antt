use Rattle.std.proofs.Common.{◌≡◌, Ok, take, reverse}
use Rattle.hp_rows.specs.Lines.{equations}
use Rattle.hp_rows.specs.Points.{HavePivots}
use Rattle.hp_rows.proofs.chain.locate.Given as goal

abbrev pub invariant-loop-at : goal.invariant-loop-at
invariant-loop-at l = record {
  made : equations l.rows (reverse (take l.at l.chain)) ≡ Ok (reverse l.lines);
  pivots : HavePivots l.width (reverse l.lines);
}
