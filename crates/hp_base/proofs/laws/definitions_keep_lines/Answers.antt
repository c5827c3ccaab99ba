use Rattle.hp_base.proofs.ArgsDefinitions.{definitions_keep_lines}
use Rattle.hp_base.proofs.laws.definitions_keep_lines.Goals as goal

pub returns : goal.returns
returns c = definitions_keep_lines
