use Rattle.hp_base.proofs.ArgsDefinitions.{definitions_begin}
use Rattle.hp_base.proofs.laws.definitions_begin.Goals as goal

pub returns : goal.returns
returns c = definitions_begin
