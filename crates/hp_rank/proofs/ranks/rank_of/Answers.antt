use Rattle.hp_rank.proofs.Places.{place_in_found, place_in_missed}
use Rattle.hp_rank.proofs.ranks.rank_of.Goals as goal

pub returns-then-place-inside-clause-place : goal.returns-then-place-inside-clause-place
returns-then-place-inside-clause-place c = place_in_found c.args.inside.now c.args.beside.now c.args.pointer c.place_of-place.result c.place_of-place.ensures c.if-place-inside.true

pub returns-else-place-inside-clause-place : goal.returns-else-place-inside-clause-place
returns-else-place-inside-clause-place c =
    place_in_missed c.args.inside.now c.args.beside.now c.args.pointer c.place_of-place.result c.place_of.result c.place_of-place.ensures c.if-place-inside.false c.place_of.ensures
