use Rattle.hp_local.proofs.FieldTables as tables
use Rattle.hp_local.proofs.laws.fields_complete.Goals as goal

pub returns : goal.returns
returns c = tables.fields_complete
