use Rattle.std.proofs.Common.{◌≡◌, drop}
use Rattle.hp_norm.specs.Testing.{tested_args}
use Rattle.hp_norm.proofs.testing.test_args.Given as goal

abbrev pub invariant-loop-at : goal.invariant-loop-at
invariant-loop-at l = tested_args l.standing l.sorts l.args ≡ tested_args l.standing (drop l.at l.sorts) (drop l.at l.args)
