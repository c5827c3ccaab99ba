use Rattle.hp_read.proofs.BytesLaws.{no_fault}
use Rattle.hp_read.proofs.laws.spells_without_fault.Goals as goal

pub returns : goal.returns
returns c = λ bytes p e s f. no_fault bytes p e s f
