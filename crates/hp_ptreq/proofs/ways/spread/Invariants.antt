use Rattle.hp_ptreq.specs.inner.Ways.{AreMet, Spreads}
use Rattle.hp_ptreq.proofs.ways.spread.Given as goal

abbrev pub invariant-loop-at : goal.invariant-loop-at
invariant-loop-at l = record { met : AreMet l.joins l.nodes l.start l.search; spreads : Spreads l.joins l.fn.search l.search l.at }
