use Rattle.std.proofs.Common.{subst}
use Rattle.hp_leaf.specs.Tree.{place_lits}
use Rattle.hp_search.specs.Search.{FindsAhead}
use Rattle.hp_search.proofs.Reading.{lines_readable}
use Rattle.hp_search.proofs.looking.look_quickly.Goals as goal

pub first_false-requires-clause-readable : goal.first_false-requires-clause-readable
first_false-requires-clause-readable c =
    let ss = c.args.sorts.now in
    let found = subst (FindsAhead ss (place_lits c.args.lines.now c.args.path.now)) c.in-Values.is c.in_ok-places.ensures in
    lines_readable ss c.in-Values.values.values found.small c.args.lines.now c.requires.fit
