use Rattle.hp_base.proofs.ArgsScopes.{defined_names_have_words}
use Rattle.hp_base.proofs.laws.defined_names_have_words.Goals as goal

pub returns : goal.returns
returns c = defined_names_have_words
