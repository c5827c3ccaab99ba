use Rattle.std.proofs.Common.{◌≡◌, ℕ, ◌<◌, length}
use Rattle.hp_rows.specs.Rows.{row_at}
use Rattle.hp_rows.proofs.row.are_wide.Given as goal

abbrev pub invariant-loop-at : goal.invariant-loop-at
invariant-loop-at l = (i : ℕ) → i < l.at → length (row_at l.rows i).coefs ≡ l.width
