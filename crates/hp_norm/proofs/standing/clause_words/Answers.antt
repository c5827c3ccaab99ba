use Rattle.std.proofs.Common.{◌+◌, length, arith}
use Rattle.hp_norm.proofs.TestSteps.{few_clause_words}
use Rattle.hp_norm.proofs.standing.clause_words.Goals as goal

pub returns-clause-few : goal.returns-clause-few
returns-clause-few c =
    omega (
      arith,
      c.constants.ensures.few,
      c.definitions.ensures.few,
      few_clause_words c.new-words.result c.add_constants.new.words c.add_variables.new.words c.add_numbered.new.words c.constants.result.now c.args.vars.now (length c.definitions.result.now + (c.args.more + 1))
          c.new-words.ensures c.in_ok-add_constants.ensures c.in_ok-add_variables.ensures c.in_ok-add_numbered.ensures,
    )
