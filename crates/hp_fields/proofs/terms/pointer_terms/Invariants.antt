use Rattle.std.proofs.Common.{◌≡◌, ◌∷◌, take}
use Rattle.hp_lit.specs.declared.line.Arg.TheVariants.{Null}
use Rattle.hp_defs.specs.Names.{sorts}
use Rattle.hp_fields.specs.Fields.{pointers_from}
use Rattle.hp_fields.proofs.terms.pointer_terms.Given as goal

abbrev pub invariant-loop-at : goal.invariant-loop-at
invariant-loop-at l = l.terms ≡ Null ∷ pointers_from 0 (take l.at (sorts l.names))
