use Rattle.hp_farkas.proofs.Names as names
use Rattle.hp_farkas.proofs.names_in_order.Goals as goal

pub returns : goal.returns
returns c = names.names_in_order
