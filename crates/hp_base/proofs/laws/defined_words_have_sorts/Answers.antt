use Rattle.hp_base.proofs.ArgsScopes.{defined_words_have_sorts}
use Rattle.hp_base.proofs.laws.defined_words_have_sorts.Goals as goal

pub returns : goal.returns
returns c = defined_words_have_sorts
