use Rattle.hp_local.proofs.NullGuards as guards
use Rattle.hp_local.proofs.laws.null_guards_suffice.Goals as goal

pub returns : goal.returns
returns c = guards.null_guards_suffice
