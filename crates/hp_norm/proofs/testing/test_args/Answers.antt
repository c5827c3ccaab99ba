use Rattle.std.proofs.Common.{arith}
use Rattle.hp_norm.proofs.ClauseTests.{args_over}
use Rattle.hp_norm.proofs.testing.test_args.Goals as goal

pub returns : goal.returns
returns c = args_over c.args.standing.now c.args.sorts.now c.args.args.now c.loop-at.at (omega arith) c.loop-at.invariant
