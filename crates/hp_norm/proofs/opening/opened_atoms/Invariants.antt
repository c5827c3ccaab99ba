use Rattle.std.specs.List.{All}
use Rattle.hp_terms.specs.Weight.{IsLightAtom}
use Rattle.hp_base.proofs.Each.{IsUnder}
use Rattle.hp_norm.specs.Opening.{opened_atom}
use Rattle.hp_norm.proofs.opening.opened_atoms.Given as goal

abbrev pub invariant-loop-atom : goal.invariant-loop-atom
invariant-loop-atom l = IsUnder (opened_atom l.vars l.item) l.atoms l.atom-index l.all l.fn.ground l.ground × All IsLightAtom l.all
