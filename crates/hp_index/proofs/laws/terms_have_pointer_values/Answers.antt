use Rattle.hp_index.proofs.Semantics.{terms_have_pointer_values}
use Rattle.hp_index.proofs.laws.terms_have_pointer_values.Goals as goal

pub returns : goal.returns
returns c = terms_have_pointer_values
