use Rattle.std.proofs.Common.{◌-◌, length}
use Rattle.hp_path.specs.inner.Chains.{AreChained}
use Rattle.hp_path.proofs.chains.chains_of.Given as goal

abbrev pub invariant-loop-done : goal.invariant-loop-done
invariant-loop-done l = AreChained l.labels l.nums (length l.nums - l.done) l.chains
