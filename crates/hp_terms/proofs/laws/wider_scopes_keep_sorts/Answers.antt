use Rattle.hp_terms.proofs.Wider as wider
use Rattle.hp_terms.proofs.laws.wider_scopes_keep_sorts.Goals as goal

pub returns : goal.returns
returns c = wider.wider_scopes_keep_sorts
