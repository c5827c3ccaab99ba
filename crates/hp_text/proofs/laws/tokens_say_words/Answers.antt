use Rattle.hp_text.proofs.Saying.{all_say}
use Rattle.hp_text.proofs.laws.tokens_say_words.Goals as goal

pub returns : goal.returns
returns c = λ bytes tokens last l. all_say bytes tokens last l
