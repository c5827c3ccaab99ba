use Rattle.std.proofs.Common.{drop}
use Rattle.hp_lit.specs.Pointers.{JoinsAll}
use Rattle.hp_leaf.proofs.pointer.leads.Given as goal

abbrev pub invariant-loop-link : goal.invariant-loop-link
invariant-loop-link l =
    (JoinsAll l.path l.fn.from l.links l.to → JoinsAll l.path l.at (drop l.link-index l.links) l.to)
    × (JoinsAll l.path l.at (drop l.link-index l.links) l.to → JoinsAll l.path l.fn.from l.links l.to)
