use Rattle.std.proofs.Common.{◌≡◌, take, ◌++◌}
use Rattle.std.specs.List.{flat_map}
use Rattle.hp_cert.specs.Trees.{link_text}
use Rattle.hp_cert.proofs.nodes.put_links.Given as goal

abbrev pub invariant-loop-link : goal.invariant-loop-link
invariant-loop-link l = l.out ≡ l.fn.out ++ flat_map link_text (take l.link-index l.links)
