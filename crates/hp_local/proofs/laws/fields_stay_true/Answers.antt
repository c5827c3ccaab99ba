use Rattle.hp_local.proofs.Fields as fields
use Rattle.hp_local.proofs.laws.fields_stay_true.Goals as goal

pub returns : goal.returns
returns c = fields.fields_stay_true
