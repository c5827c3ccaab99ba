use Rattle.hp_solve.proofs.solving.descended.Goals as goal

pub returns : goal.returns
returns c = c.unmade.ensures c.args.most
