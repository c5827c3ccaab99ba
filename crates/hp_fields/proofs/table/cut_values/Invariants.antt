use Rattle.std.proofs.Common.{◌≡◌, take}
use Rattle.hp_fields.specs.Fields.{cut_values}
use Rattle.hp_fields.proofs.table.cut_values.Given as goal

abbrev pub invariant-loop-value : goal.invariant-loop-value
invariant-loop-value l = l.found ≡ cut_values l.size (take l.value-index l.values)
