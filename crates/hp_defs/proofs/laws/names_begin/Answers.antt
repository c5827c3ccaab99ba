use Rattle.hp_defs.proofs.Growing as growing
use Rattle.hp_defs.proofs.laws.names_begin.Goals as goal

pub returns : goal.returns
returns c = growing.names_begin
