use Rattle.hp_defs.proofs.Distinct as distinct
use Rattle.hp_defs.proofs.laws.words_stand_for_names.Goals as goal

pub returns : goal.returns
returns c = distinct.words_stand_for_names
