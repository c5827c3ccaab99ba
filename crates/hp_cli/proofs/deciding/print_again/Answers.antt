use Rattle.hp_cli.specs.Answer.{printed}
use Rattle.hp_cli.proofs.deciding.print_again.Goals as goal

pub returns-in-Ok : goal.returns-in-Ok
returns-in-Ok c =
    let found = c.in-Ok.ensures.found in
    printed (record {
      problem = found.problem;
      read = record { size = c.requires.size; spelled = found.spelled };
      written = found.printed;
      respelled = found.respelled;
    })
