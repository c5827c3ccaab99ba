use Rattle.std.proofs.Common.{◌≡◌, take, ◌++◌}
use Rattle.std.specs.List.{flat_map}
use Rattle.hp_cert.specs.Refutation.{listed_node}
use Rattle.hp_cert.proofs.refutation.put_nodes.Given as goal

abbrev pub invariant-loop-node : goal.invariant-loop-node
invariant-loop-node l = l.out ≡ l.fn.out ++ flat_map listed_node (take l.node-index l.tree)
