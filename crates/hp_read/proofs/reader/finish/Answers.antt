-- At the end of the bytes the reader's state says what they spell, or that they end too early.
use Rattle.std.proofs.Common.{sym}
use Rattle.hp_read.proofs.Bytes.{spelled, unfinished}
use Rattle.hp_read.proofs.reader.finish.Goals as goal

pub returns-in-Some-clause-found : goal.returns-in-Some-clause-found
returns-in-Some-clause-found c = spelled _ _ _ _ _ _ c.requires.reading c.requires.next c.requires.last (sym c.in-Some.ensures)

pub returns-in-None-clause-fault : goal.returns-in-None-clause-fault
returns-in-None-clause-fault c = unfinished _ _ _ _ _ c.requires.reading c.requires.next c.requires.last (sym c.in-None.ensures)
