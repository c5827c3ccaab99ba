use Rattle.hp_ptreq.proofs.Searching.{IsBack}
use Rattle.hp_ptreq.proofs.ways.way_back.Given as goal

abbrev pub invariant-back : goal.invariant-back
invariant-back l = IsBack l.joins l.search l.number l.current l.way

abbrev pub decreases-back : goal.decreases-back
decreases-back l = l.current
