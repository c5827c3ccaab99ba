use Rattle.hp_text.proofs.Lexing.{one_lexing}
use Rattle.hp_text.proofs.laws.one_list_of_tokens.Goals as goal

pub returns : goal.returns
returns c = λ bytes. one_lexing bytes
