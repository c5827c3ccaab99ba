use Rattle.hp_terms.proofs.Parts as parts
use Rattle.hp_terms.proofs.laws.parts_of_sorted_terms_are_sorted.Goals as goal

pub returns : goal.returns
returns c = parts.parts_of_sorted_terms_are_sorted
