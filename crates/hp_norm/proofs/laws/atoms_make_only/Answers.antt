use Rattle.hp_norm.proofs.TermsOnly.{atoms_make_only}
use Rattle.hp_norm.proofs.laws.atoms_make_only.Goals as goal

pub returns : goal.returns
returns c = atoms_make_only
