use Rattle.hp_index.proofs.Fits.{terms_have_fit_forms}
use Rattle.hp_index.proofs.laws.terms_have_fit_forms.Goals as goal

pub returns : goal.returns
returns c = terms_have_fit_forms
