use Rattle.hp_ptreq.proofs.Searching.{meets_one}
use Rattle.hp_ptreq.proofs.ways.meet.Goals as goal

pub returns : goal.returns
returns c = rw (c.set.ensures, c.len-mark.ensures, c.in_ok-push.ensures.ok) (meets_one _ _ _ _ _ c.requires.met c.requires.node c.requires.new c.requires.from c.requires.hop)
