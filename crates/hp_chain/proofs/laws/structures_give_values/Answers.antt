use Rattle.hp_chain.proofs.StructuresGive.{structures_give_values}
use Rattle.hp_chain.proofs.laws.structures_give_values.Goals as goal

pub returns : goal.returns
returns c = structures_give_values
