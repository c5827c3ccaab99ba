use Rattle.std.proofs.Common.{arith}
use Rattle.hp_cli.specs.Answer.{limited, out_of_nodes, satisfiable, strained, strained_pair, unruly, unsatisfiable}
use Rattle.hp_bounds.proofs.Plain.{plain_arguments}
use Rattle.hp_cli.proofs.Decisions.{few_items, in_scope, is_able}
use Rattle.hp_cli.proofs.OneLine.{names_on_one_line}
use Rattle.hp_cli.proofs.deciding.decided.Goals as goal

pub solve-requires-clause-able : goal.solve-requires-clause-able
solve-requires-clause-able c = is_able c.args.bytes.now c.args.problem.now c.requires.built.counted

pub solve-requires-clause-plain : goal.solve-requires-clause-plain
solve-requires-clause-plain c = plain_arguments c.args.bytes.now c.args.problem.now c.requires.built.counted.sorted.read.spelled

pub solve-requires-clause-items : goal.solve-requires-clause-items
solve-requires-clause-items c = omega (arith, few_items c.args.bytes.now c.args.problem.now c.requires.built.counted.sorted.read)

pub returns-in_ok-outside_text-in-Outside : goal.returns-in_ok-outside_text-in-Outside
returns-in_ok-outside_text-in-Outside c = unruly (record {
  problem = c.args.problem.now;
  built = c.requires.built;
  broken = c.in-Outside.outside;
  cause = c.in-Outside.ensures;
  written = c.in_ok-outside_text-in-Outside.ensures;
})

pub returns-in_ok-pair_overflow_text-in-StrainedPair : goal.returns-in_ok-pair_overflow_text-in-StrainedPair
returns-in_ok-pair_overflow_text-in-StrainedPair c = strained_pair (record {
  problem = c.args.problem.now;
  built = c.requires.built;
  strain = c.in-StrainedPair.strain;
  cause = c.in-StrainedPair.ensures;
  written = c.in_ok-pair_overflow_text-in-StrainedPair.ensures;
})

pub returns-in_ok-limit-in-Limit : goal.returns-in_ok-limit-in-Limit
returns-in_ok-limit-in-Limit c = limited (record {
  problem = c.args.problem.now;
  built = c.requires.built;
  passed_limit = c.in-Limit.limit;
  cause = c.in-Limit.ensures;
  written = c.in_ok-limit-in-Limit.ensures;
})

pub returns-in_ok-overflow_text-in-Strained : goal.returns-in_ok-overflow_text-in-Strained
returns-in_ok-overflow_text-in-Strained c = strained (record {
  problem = c.args.problem.now;
  scope = in_scope c.args.bytes.now c.args.problem.now c.requires.built c.in-Strained.ensures.scope;
  lines = c.in-Strained.ensures.lines;
  ground = c.in-Strained.ensures.ground;
  strain = c.in-Strained.strain;
  strained = c.in-Strained.ensures.strain;
  written = c.in_ok-overflow_text-in-Strained.ensures;
})

pub returns-in_ok-sat_text-in-Sat : goal.returns-in_ok-sat_text-in-Sat
returns-in_ok-sat_text-in-Sat c = satisfiable (record {
  problem = c.args.problem.now;
  scope = in_scope c.args.bytes.now c.args.problem.now c.requires.built c.in-Sat.ensures.scope;
  structure = c.in-Sat.structure;
  satisfied = c.in-Sat.ensures.satisfied;
  written = c.in_ok-sat_text-in-Sat.ensures;
})

pub returns-in_ok-unsat_text-in-Unsat : goal.returns-in_ok-unsat_text-in-Unsat
returns-in_ok-unsat_text-in-Unsat c = unsatisfiable (record {
  problem = c.args.problem.now;
  scope = in_scope c.args.bytes.now c.args.problem.now c.requires.built c.in-Unsat.ensures.scope;
  lines = c.in-Unsat.ensures.lines;
  ground = c.in-Unsat.ensures.ground;
  refutation = c.in-Unsat.refutation;
  refuted = c.in-Unsat.ensures.refuted;
  defs = c.in-Unsat.ensures.defs;
  listed = c.in-Unsat.ensures.listed;
  spelled = c.in-Unsat.ensures.spelled (names_on_one_line c.args.bytes.now c.args.problem.now c.requires.built.counted.sorted.read);
  none = c.in-Unsat.ensures.none;
  written = c.in_ok-unsat_text-in-Unsat.ensures;
})

pub returns-in_ok-spent_text-in-Spent : goal.returns-in_ok-spent_text-in-Spent
returns-in_ok-spent_text-in-Spent c = out_of_nodes (record {
  problem = c.args.problem.now;
  scope = in_scope c.args.bytes.now c.args.problem.now c.requires.built c.in-Spent.ensures.scope;
  lines = c.in-Spent.ensures.lines;
  ground = c.in-Spent.ensures.ground;
  listing = c.in-Spent.listing;
  honest = c.in-Spent.ensures.honest;
  defs = c.in-Spent.ensures.defs;
  listed = c.in-Spent.ensures.listed;
  spelled = c.in-Spent.ensures.spelled (names_on_one_line c.args.bytes.now c.args.problem.now c.requires.built.counted.sorted.read);
  written = c.in_ok-spent_text-in-Spent.ensures;
})
