use Rattle.hp_base.proofs.ArgsDefinitions.{definitions_fit}
use Rattle.hp_base.proofs.laws.definitions_fit.Goals as goal

pub returns : goal.returns
returns c = definitions_fit
