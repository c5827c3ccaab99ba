use Rattle.hp_chain.proofs.OneByOne.{AreConstsTo}
use Rattle.hp_chain.proofs.structures.const_values.Given as goal

abbrev pub invariant-loop-at : goal.invariant-loop-at
invariant-loop-at l = AreConstsTo l.constants l.values l.at l.consts
