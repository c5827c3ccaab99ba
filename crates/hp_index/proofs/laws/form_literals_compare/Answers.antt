use Rattle.hp_index.proofs.Truth.{form_literals_compare}
use Rattle.hp_index.proofs.laws.form_literals_compare.Goals as goal

pub returns : goal.returns
returns c = form_literals_compare
