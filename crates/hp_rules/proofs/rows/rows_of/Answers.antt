use Rattle.hp_rules.proofs.GuardRows.{rows_more}
use Rattle.hp_rules.proofs.rows.rows_of.Goals as goal

pub loop-atom-preserved : goal.loop-atom-preserved
loop-atom-preserved c =
    let pushed = c.in_ok-literals.ensures in
    rows_more c.args.words.now c.args.atoms.now c.loop-atom.atom-index c.atom-item.result c.loop-atom.lits pushed.0 c.literals.new.lits c.loop-atom-test.true c.atom-item.is pushed.1 pushed.2 c.loop-atom.invariant
