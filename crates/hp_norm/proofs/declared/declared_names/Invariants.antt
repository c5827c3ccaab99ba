use Rattle.std.proofs.Common.{◌≡◌, take}
use Rattle.hp_norm.specs.Lines.{declared_names}
use Rattle.hp_norm.proofs.declared.declared_names.Given as goal

abbrev pub invariant-loop-at : goal.invariant-loop-at
invariant-loop-at l = l.names ≡ declared_names (take l.at l.decls)
