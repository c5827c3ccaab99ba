use Rattle.hp_descent.proofs.Rising.{columns_are_names}
use Rattle.hp_descent.proofs.columns_are_names.Goals as goal

pub returns : goal.returns
returns c = columns_are_names
