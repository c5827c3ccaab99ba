use Rattle.std.proofs.Common.{arith, ◌<◌, length}
use Rattle.hp_leaf.proofs.Cycles.{loop_none}
use Rattle.hp_leaf.proofs.cycle.is_cycle.Goals as goal

pub returns-in-None-clause-no : goal.returns-in-None-clause-no
returns-in-None-clause-no c = λ e h. let b : 0 < length c.args.steps.now = omega arith in loop_none c.args.path.now c.args.steps.now 0 _ h.0 h.0 b c.in-None.ensures.none h.1
