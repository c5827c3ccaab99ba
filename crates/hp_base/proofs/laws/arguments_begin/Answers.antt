use Rattle.hp_base.proofs.ArgsMade.{arguments_begin}
use Rattle.hp_base.proofs.laws.arguments_begin.Goals as goal

pub returns : goal.returns
returns c = arguments_begin
