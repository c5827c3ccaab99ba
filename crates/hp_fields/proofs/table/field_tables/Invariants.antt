use Rattle.std.proofs.Common.{◌≡◌, take}
use Rattle.hp_fields.specs.Fields.{fields_tables}
use Rattle.hp_fields.proofs.table.field_tables.Given as goal

abbrev pub invariant-loop-at : goal.invariant-loop-at
invariant-loop-at l = l.tables ≡ fields_tables l.size (take l.at l.words) l.names l.values
