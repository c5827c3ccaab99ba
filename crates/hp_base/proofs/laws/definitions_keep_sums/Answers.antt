use Rattle.hp_base.proofs.ArgsDefinitions.{definitions_keep_sums}
use Rattle.hp_base.proofs.laws.definitions_keep_sums.Goals as goal

pub returns : goal.returns
returns c = definitions_keep_sums
