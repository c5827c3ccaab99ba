use Rattle.hp_descent.proofs.Numbering.{small_chain}
use Rattle.hp_descent.proofs.decision.solution.Goals as goal

pub numbered-requires : goal.numbered-requires
numbered-requires c = small_chain c.args.lits.now c.args.chain.now c.requires.fit.few c.requires.point.point_of_chain.is_chain
