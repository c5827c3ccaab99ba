use Rattle.hp_base.proofs.ArgsDefinitions.{definitions_say}
use Rattle.hp_base.proofs.laws.definitions_say.Goals as goal

pub returns : goal.returns
returns c = definitions_say
