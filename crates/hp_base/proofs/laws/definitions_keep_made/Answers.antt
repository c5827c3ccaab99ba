use Rattle.hp_base.proofs.ArgsDefinitions.{definitions_keep_made}
use Rattle.hp_base.proofs.laws.definitions_keep_made.Goals as goal

pub returns : goal.returns
returns c = definitions_keep_made
