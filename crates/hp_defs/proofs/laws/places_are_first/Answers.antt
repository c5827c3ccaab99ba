use Rattle.hp_defs.proofs.Same.{place_is_exact}
use Rattle.hp_defs.proofs.laws.places_are_first.Goals as goal

pub returns : goal.returns
returns c = λ body names. place_is_exact body names.definitions
