use Rattle.hp_base.proofs.SumsHold.{sums_hold_by_lines}
use Rattle.hp_base.proofs.laws.sums_hold_by_lines.Goals as goal

pub returns : goal.returns
returns c = sums_hold_by_lines
