use Rattle.std.proofs.Common.{sym}
use Rattle.hp_read.proofs.Printing.{printed, printed_early}
use Rattle.hp_read.proofs.transcript.finish.Goals as goal

pub returns-in-None-clause-fault : goal.returns-in-None-clause-fault
returns-in-None-clause-fault c = printed_early _ _ _ _ _ _ c.requires.reading c.requires.next c.requires.last (sym c.in-None.ensures)

pub returns-in_ok-put_lines-in-Some-clause-found : goal.returns-in_ok-put_lines-in-Some-clause-found
returns-in_ok-put_lines-in-Some-clause-found c = printed _ _ _ _ _ _ _ _ c.requires.reading c.requires.next c.requires.last (sym c.in-Some.ensures) c.in_ok-put_lines-in-Some.ensures
