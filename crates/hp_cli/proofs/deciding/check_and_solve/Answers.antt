use Rattle.std.proofs.Common.{rules}
use Rattle.hp_cli.specs.Answer.{missorted, too_many}
use Rattle.hp_cli.proofs.Decisions.{few_items, is_fault}
use Rattle.hp_cli.proofs.deciding.check_and_solve.Goals as goal

pub check-requires : goal.check-requires
check-requires c = few_items c.args.bytes.now c.args.problem.now c.requires.read

pub returns-in-Err : goal.returns-in-Err
returns-in-Err c = missorted (record {
  problem = c.args.problem.now;
  read = c.requires.read;
  fault = c.in-Err.fault;
  cause = search (rules, is_fault);
  written = c.in_ok-sort-in-Err.ensures;
})

pub returns-in_ok-limit-in-Some : goal.returns-in_ok-limit-in-Some
returns-in_ok-limit-in-Some c = too_many (record {
  problem = c.args.problem.now;
  sorted = record { read = c.requires.read; sorted = search rules };
  passed_limit = c.in-Some.limit;
  cause = search rules;
  written = c.in_ok-limit-in-Some.ensures;
})
