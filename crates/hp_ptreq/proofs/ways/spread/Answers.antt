use Rattle.std.proofs.Common.{arith, subst}
use Rattle.hp_ptreq.specs.inner.Ways.{Spreads}
use Rattle.hp_ptreq.proofs.Searching.{next_spread, no_spread}
use Rattle.hp_ptreq.proofs.ways.spread.Goals as goal

pub loop-at-init : goal.loop-at-init
loop-at-init c = record { met = c.requires.met; spreads = no_spread _ _ }

pub loop-at-preserved : goal.loop-at-preserved
loop-at-preserved c = record {
  met = c.in_ok-go_over.ensures.met;
  spreads = next_spread _ _ _ _ _ c.loop-at.invariant.spreads c.in_ok-go_over.ensures.steps;
}

pub returns-clause-spreads : goal.returns-clause-spreads
returns-clause-spreads c = subst (Spreads c.args.joins.now c.args.search.now c.loop-at.search) (omega arith) c.loop-at.invariant.spreads
