use Rattle.hp_sorts.proofs.Faultless as faultless
use Rattle.hp_sorts.proofs.laws.faultless_problems_are_well_sorted.Goals as goal

pub returns : goal.returns
returns c = faultless.faultless_problems_are_well_sorted
