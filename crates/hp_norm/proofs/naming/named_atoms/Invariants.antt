use Rattle.std.proofs.Common.{take}
use Rattle.std.specs.List.{AllZip}
use Rattle.hp_base.proofs.Each.{IsUnder}
use Rattle.hp_norm.specs.Loads.{WeighsNoMore}
use Rattle.hp_norm.specs.Naming.{named_atom}
use Rattle.hp_norm.specs.Scopes.{term_scope}
use Rattle.hp_norm.proofs.naming.named_atoms.Given as goal

abbrev pub invariant-loop-atom : goal.invariant-loop-atom
invariant-loop-atom l = IsUnder (named_atom l.item) l.atoms l.atom-index l.all l.fn.ground l.ground × AllZip (WeighsNoMore (term_scope l.fn.ground.names)) (take l.atom-index l.atoms) l.all
