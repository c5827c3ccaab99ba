use Rattle.hp_index.proofs.Named.{terms_have_fit_pointers}
use Rattle.hp_index.proofs.laws.terms_have_fit_pointers.Goals as goal

pub returns : goal.returns
returns c = terms_have_fit_pointers
