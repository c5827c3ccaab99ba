use Rattle.std.proofs.Common.{◌≡◌, ◌-◌, length}
use Rattle.hp_read.specs.Printed.{IsPrinting}
use Rattle.hp_read.proofs.transcript.print_tokens.Given as goal

abbrev pub invariant-loop-out : goal.invariant-loop-out
invariant-loop-out l = record {
  printing : IsPrinting l.bytes l.out l.reading.place l.reading.progress l.reading.counts;
  bytes : l.cursor.bytes ≡ l.bytes;
  place : l.cursor.place ≡ l.reading.place;
}

abbrev pub decreases-loop-out : goal.decreases-loop-out
decreases-loop-out l = length l.bytes - l.reading.place
