use Rattle.std.proofs.Common.{◌∙◌}
use Rattle.hp_base.specs.Making.{in_turn}
use Rattle.hp_base.proofs.Making.{begins_same, makes_other}
use Rattle.hp_class.specs.Group.{plan_lines}
use Rattle.hp_cases.specs.Cases.{cases_plan, clause_lines}
use Rattle.hp_cases.proofs.Adding.{plan_all_fit, plan_is}
use Rattle.hp_cases.proofs.instances.add_case_lines.Goals as goal

pub returns-in_err-tuples-clause-kept : goal.returns-in_err-tuples-clause-kept
returns-in_err-tuples-clause-kept c = begins_same c.args.g.now

pub add_instances-requires-clause-fit : goal.add_instances-requires-clause-fit
add_instances-requires-clause-fit c =
    plan_all_fit c.args.g.now.names c.args.func c.args.clauses.now c.as_slice.result.now (c.as_slice.ensures ∙ c.in_ok-tuples.ensures) c.requires.fit

pub returns-clause-made : goal.returns-clause-made
returns-clause-made c =
    let clauses = c.args.clauses.now in
    let tuples = c.as_slice.result.now in
    let g = c.args.g.now in
    makes_other (in_turn (clause_lines tuples) clauses) (plan_lines (cases_plan c.args.func clauses g.names)) g c.add_instances.new.g c.add_instances.result
    (plan_is c.args.func clauses tuples g (c.as_slice.ensures ∙ c.in_ok-tuples.ensures)) c.add_instances.ensures.made
