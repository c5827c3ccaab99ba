use Rattle.hp_local.proofs.Rows as rows
use Rattle.hp_local.proofs.laws.facts_are_added_once.Goals as goal

pub returns : goal.returns
returns c = rows.facts_are_added_once
