use Rattle.hp_local.proofs.TableScopes as scopes
use Rattle.hp_local.proofs.laws.table_scopes_fit.Goals as goal

pub returns : goal.returns
returns c = scopes.table_scopes_fit
