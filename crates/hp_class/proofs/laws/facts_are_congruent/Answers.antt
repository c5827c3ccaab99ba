use Rattle.hp_class.proofs.FactsCongruent.{facts_are_congruent}
use Rattle.hp_class.proofs.laws.facts_are_congruent.Goals as goal

pub returns : goal.returns
returns c = facts_are_congruent
