use Rattle.std.proofs.Common.{◌-◌, arith}
use Rattle.hp_ptreq.proofs.Searching.{spreads_on}
use Rattle.hp_ptreq.proofs.ways.way_between.Goals as goal

pub spread-smaller : goal.spread-smaller
spread-smaller c = spreads_on _ _ _ _ _ _ c.spread.invariant c.in_ok-spread.ensures.met c.in_ok-spread.ensures.spreads (omega arith) c.requires.joined

pub way_back-requires-clause-number : goal.way_back-requires-clause-number
way_back-requires-clause-number c = (c.spread.invariant.marked c.args.left (c.mark_of-mark.result - 1) c.requires.left (omega arith)).0

pub returns-then-mark-gt0 : goal.returns-then-mark-gt0
returns-then-mark-gt0 c = rw (c.spread.invariant.marked c.args.left (c.mark_of-mark.result - 1) c.requires.left (omega arith)).1 at c.way_back.ensures
