use Rattle.std.proofs.Common.{◌≡◌, ◌-◌, length}
use Rattle.hp_read.specs.Reading.{IsReading}
use Rattle.hp_read.proofs.reader.read_tokens.Given as goal

abbrev pub invariant-loop-reading : goal.invariant-loop-reading
invariant-loop-reading l = record {
  reading : IsReading l.bytes l.reading.place l.reading.progress l.reading.counts;
  bytes : l.cursor.bytes ≡ l.bytes;
  place : l.cursor.place ≡ l.reading.place;
}

abbrev pub decreases-loop-reading : goal.decreases-loop-reading
decreases-loop-reading l = length l.bytes - l.reading.place
