use Rattle.std.proofs.Common.{◌≡◌}
use Rattle.std.specs.List.{All}
use Rattle.hp_cert.specs.Entries.{marked_lines}
use Rattle.hp_cert.specs.Spelled.{HasNumber}
use Rattle.hp_cert.proofs.listing.listed.Given as goal

abbrev pub invariant-loop-i : goal.invariant-loop-i
invariant-loop-i l = (l.lines ≡ marked_lines l.g l.marks l.i) × All HasNumber l.lines
