use Rattle.hp_path.proofs.Splitting.{ArePartsTo}
use Rattle.hp_path.proofs.parting.parts_of.Given as goal

abbrev pub invariant-loop-at : goal.invariant-loop-at
invariant-loop-at l = ArePartsTo l.lits l.at (record { rows = l.rows; row_places = l.row_places; nums = l.nums; num_places = l.num_places; pairs = l.pairs; pair_places = l.pair_places })
