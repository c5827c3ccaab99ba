use Rattle.hp_base.proofs.ArgsScopes.{scopes_widen}
use Rattle.hp_base.proofs.laws.scopes_widen.Goals as goal

pub returns : goal.returns
returns c = scopes_widen
