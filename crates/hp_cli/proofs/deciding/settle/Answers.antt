use Rattle.std.proofs.Common.{rules}
use Rattle.hp_cli.specs.Answer.{other_form}
use Rattle.hp_cli.proofs.deciding.settle.Goals as goal

pub returns-in_ok-not_built : goal.returns-in_ok-not_built
returns-in_ok-not_built c = other_form (record {
  problem = c.args.problem.now;
  counted = c.requires.counted;
  cause = search rules;
  written = c.in_ok-not_built.ensures;
})
