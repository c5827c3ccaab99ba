use Rattle.hp_solve.proofs.solving.solve.Goals as goal

pub returns-in-Err : goal.returns-in-Err
returns-in-Err c = c.unread.ensures c.args.most
