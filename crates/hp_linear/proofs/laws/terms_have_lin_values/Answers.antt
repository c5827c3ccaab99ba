use Rattle.hp_linear.proofs.Semantics as semantics
use Rattle.hp_linear.proofs.laws.terms_have_lin_values.Goals as goal

pub returns : goal.returns
returns c = semantics.terms_have_lin_values
