use Rattle.hp_sorts.proofs.Found as found
use Rattle.hp_sorts.proofs.laws.scopes_say_what_is_declared.Goals as goal

pub returns : goal.returns
returns c = found.scopes_say_what_is_declared
