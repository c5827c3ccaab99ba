use Rattle.hp_terms.proofs.Values as values
use Rattle.hp_terms.proofs.laws.sorted_terms_have_sorted_values.Goals as goal

pub returns : goal.returns
returns c = values.sorted_terms_have_sorted_values
