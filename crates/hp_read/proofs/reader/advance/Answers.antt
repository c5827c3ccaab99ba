-- One token more: it goes on, or it is the fault.
use Rattle.hp_read.proofs.Printing.{faults_at, steps_on}
use Rattle.hp_read.proofs.reader.advance.Goals as goal

pub returns-clause-fault : goal.returns-clause-fault
returns-clause-fault c = faults_at _ _ _ _ _ c.step.result c.requires.reading c.requires.next c.requires.some c.step.ensures.fault

pub returns-clause-read : goal.returns-clause-read
returns-clause-read c =
    steps_on _ _ _ _ _ _ _ _ c.step.result c.requires.reading c.requires.next c.requires.some c.step.ensures.progress c.step.ensures.counts c.step.ensures.place
