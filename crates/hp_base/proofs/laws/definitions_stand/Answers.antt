use Rattle.hp_base.proofs.ArgsDefinitions.{definitions_stand}
use Rattle.hp_base.proofs.laws.definitions_stand.Goals as goal

pub returns : goal.returns
returns c = definitions_stand
