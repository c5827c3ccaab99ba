-- A name of the list is found.
use Rattle.std.proofs.Common.{subst}
use Rattle.hp_nodes.specs.Nodes.{IsNamed}
use Rattle.hp_nodes.proofs.Finding.{found}
use Rattle.hp_nodes.proofs.names.node_of.Goals as goal

pub returns-in-Err-clause-named : goal.returns-in-Err-clause-named
returns-in-Err-clause-named c = absurd (found _ _ _ c.requires.rising (subst (IsNamed c.args.names.now) c.in-Some.is c.requires.named) c.in-Err.ensures.position)
