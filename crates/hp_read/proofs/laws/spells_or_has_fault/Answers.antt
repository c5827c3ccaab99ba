use Rattle.hp_read.proofs.Meaning.{one_of_both}
use Rattle.hp_read.proofs.laws.spells_or_has_fault.Goals as goal

pub returns : goal.returns
returns c = λ bytes. one_of_both bytes
