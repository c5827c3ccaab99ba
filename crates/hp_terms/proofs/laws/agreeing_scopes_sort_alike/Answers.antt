use Rattle.hp_terms.proofs.Agreeing as agreeing
use Rattle.hp_terms.proofs.laws.agreeing_scopes_sort_alike.Goals as goal

pub returns : goal.returns
returns c = agreeing.agreeing_scopes_sort_alike
