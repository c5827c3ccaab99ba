use Rattle.hp_terms.proofs.Wider as wider
use Rattle.hp_terms.proofs.laws.wider_scopes_keep_forms.Goals as goal

pub returns : goal.returns
returns c = wider.wider_scopes_keep_forms
