use Rattle.std.proofs.Common.{◌-◌}
use Rattle.hp_ptreq.specs.inner.Ways.{AreMet, seen_count}
use Rattle.hp_ptreq.proofs.ways.way_between.Given as goal

abbrev pub invariant-spread : goal.invariant-spread
invariant-spread l = AreMet l.joins l.nodes l.right l.search

abbrev pub decreases-spread : goal.decreases-spread
decreases-spread l = l.nodes - seen_count l.search
