use Rattle.hp_terms.proofs.Words as words
use Rattle.hp_terms.proofs.laws.made_words_are_not_plain.Goals as goal

pub returns : goal.returns
returns c = words.made_words_are_not_plain
