use Rattle.hp_base.proofs.Congruent.{congruence_fits}
use Rattle.hp_base.proofs.laws.congruence_fits.Goals as goal

pub returns : goal.returns
returns c = congruence_fits
