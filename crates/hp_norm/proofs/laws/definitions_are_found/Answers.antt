use Rattle.hp_norm.proofs.DefinitionsFound.{definitions_are_found}
use Rattle.hp_norm.proofs.laws.definitions_are_found.Goals as goal

pub returns : goal.returns
returns c = definitions_are_found
