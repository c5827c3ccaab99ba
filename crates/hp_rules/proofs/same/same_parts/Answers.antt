use Rattle.hp_rules.proofs.SameLengths.{parts_of_lengths}
use Rattle.hp_rules.proofs.same.same_parts.Goals as goal

pub returns-then-left-right : goal.returns-then-left-right
returns-then-left-right c = parts_of_lengths c.args.left.now c.args.right.now c.if-left-right.true
