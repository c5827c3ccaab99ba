use Rattle.std.proofs.Common.{subst}
use Rattle.hp_path.specs.Decided.{DecidesQuickly}
use Rattle.hp_search.proofs.Reading.{lines_readable}
use Rattle.hp_search.proofs.looking.values_of.Goals as goal

pub first_false-requires-clause-readable : goal.first_false-requires-clause-readable
first_false-requires-clause-readable c =
    let ss = c.args.sorts.now in
    let found = subst (DecidesQuickly ss c.args.lits.now) c.in-Values.is c.in_ok-decide_quickly.ensures in
    lines_readable ss c.in-Values.values.values found.small c.args.lines.now c.requires.fit
