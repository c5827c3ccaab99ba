use Rattle.hp_terms.proofs.Parts as parts
use Rattle.hp_terms.proofs.laws.applications_follow_profiles.Goals as goal

pub returns : goal.returns
returns c = parts.applications_follow_profiles
