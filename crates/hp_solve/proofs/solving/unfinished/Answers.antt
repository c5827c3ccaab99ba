use Rattle.std.proofs.Common.{subst}
use Rattle.hp_defs.specs.Names.{sorts}
use Rattle.hp_search.specs.Search.{IsCause}
use Rattle.hp_solve.proofs.solving.unfinished.Goals as goal

pub returns-in-Strain : goal.returns-in-Strain
returns-in-Strain c = λ most. record {
  scope = c.requires.scope;
  lines = c.args.g.now;
  ground = c.requires.chain.ground;
  strain = subst (IsCause (sorts c.args.g.now.names) c.args.g.now.lines) c.in-Strain.is c.requires.cause;
}
