-- One token more, behind which the clauses before the last one are given up where an item has ended.
use Rattle.hp_read.proofs.Printing.{printing_fails, printing_moves, printing_given}
use Rattle.hp_read.proofs.transcript.go_on.Goals.{in-Whole, in_default}
use Rattle.hp_read.proofs.transcript.go_on.Goals as goal

pub returns-in_err-step-clause-fault : goal.returns-in_err-step-clause-fault
returns-in_err-step-clause-fault c =
    printing_fails _ _ _ _ _ _ _ c.from_residual.result c.requires.reading c.requires.next c.requires.some (c.in_err-step.ensures).fault c.from_residual.ensures.1

pub returns-else-matches-clause-read : goal.returns-else-matches-clause-read
returns-else-matches-clause-read c =
    printing_moves _ _ _ _ _ _ _ _ _ c.requires.reading c.requires.next c.requires.some (c.in_ok-step.ensures).progress (c.in_ok-step.ensures).counts (c.in_ok-step.ensures).place

pub returns-in_ok-give_up-clause-read : goal.returns-in_ok-give_up-clause-read
returns-in_ok-give_up-clause-read c =
    let moved = printing_moves _ _ _ _ _ _ _ _ _ c.requires.reading c.requires.next c.requires.some (c.in_ok-step.ensures).progress (c.in_ok-step.ensures).counts (c.in_ok-step.ensures).place in
    printing_given _ _ _ _ _ _ _ _ moved (elim c.match-matches.branch [
      | in-Whole w ↦ w.in-Whole.is
      | in_default w ↦ absurd (let no = w.matches-is in let yes = c.if-matches.true in cc)
    ]) c.in_ok-give_up.ensures.given
