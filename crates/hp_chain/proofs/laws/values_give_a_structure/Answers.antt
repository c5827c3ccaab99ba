use Rattle.hp_chain.proofs.ValuesGive.{values_give_a_structure}
use Rattle.hp_chain.proofs.laws.values_give_a_structure.Goals as goal

pub returns : goal.returns
returns c = values_give_a_structure
