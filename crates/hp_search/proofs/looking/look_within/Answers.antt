use Rattle.std.proofs.Common.{◌≤◌, arith, length, subst, sym}
use Rattle.hp_search.proofs.Picking.{caused_within, part_short}
use Rattle.hp_search.proofs.looking.look_within.Goals as goal

pub strain_over-requires-clause-path : goal.strain_over-requires-clause-path
strain_over-requires-clause-path c =
    let short = part_short c.args.part c.args.path.now c.requires.part in
    subst (λ q. length q ≤ 50000) (sym c.as_slice.ensures) (omega (arith, short, c.requires.path))

pub returns-in-None-clause-strained : goal.returns-in-None-clause-strained
returns-in-None-clause-strained c = caused_within c.args.lines.now c.args.path.now c.look_wholly.result c.look_wholly.ensures.strained
