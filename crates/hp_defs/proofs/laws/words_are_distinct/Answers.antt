use Rattle.hp_defs.proofs.Distinct as distinct
use Rattle.hp_defs.proofs.laws.words_are_distinct.Goals as goal

pub returns : goal.returns
returns c = distinct.words_are_distinct
