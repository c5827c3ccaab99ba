use Rattle.hp_class.proofs.Modelled.{turns_are_modelled}
use Rattle.hp_class.proofs.laws.turns_are_modelled.Goals as goal

pub returns : goal.returns
returns c = turns_are_modelled
