use Rattle.hp_descent.proofs.Numbering.{strained_chain, strained_place}
use Rattle.hp_descent.proofs.decision.numbered_strain.Goals as goal

pub numbered-requires : goal.numbered-requires
numbered-requires c = rw c.as_slice.ensures (strained_chain c.args.lits.now c.args.strain.now.chain c.args.strain.now.place c.args.strain.now.wide c.requires.fit.few c.requires.strain)

pub at_of-requires : goal.at_of-requires
at_of-requires c = strained_place c.args.lits.now c.args.strain.now.chain c.args.strain.now.place c.args.strain.now.wide c.requires.fit.few c.requires.strain
