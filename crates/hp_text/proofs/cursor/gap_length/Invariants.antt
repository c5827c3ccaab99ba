use Rattle.std.proofs.Common.{◌≡◌, ◌+◌, drop}
use Rattle.hp_text.specs.Tokens.{gap, gap_in}
use Rattle.hp_text.proofs.cursor.gap_length.Given as goal

abbrev pub invariant-loop-i : goal.invariant-loop-i
invariant-loop-i l = l.i + gap_in l.in_comment (drop l.i l.bytes) ≡ gap l.bytes
