use Rattle.std.proofs.Common.{[]}
use Rattle.hp_ptreq.specs.inner.Classes.{AreApart}
use Rattle.hp_ptreq.proofs.classes.apart.Given as goal

abbrev pub invariant-loop-node : goal.invariant-loop-node
invariant-loop-node l = AreApart l.node (record { parents = l.parents; joins = [] })
