use Rattle.hp_faults.proofs.Faults as faults
use Rattle.hp_faults.proofs.laws.one_fault.Goals as goal

pub returns : goal.returns
returns c = faults.one_fault
