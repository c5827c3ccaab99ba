use Rattle.std.proofs.Common.{◌∙◌, refl}
use Rattle.hp_base.specs.Making.{in_turn}
use Rattle.hp_base.proofs.Making.{begins_same, begins_trans, makes_other}
use Rattle.hp_class.specs.Group.{plan_lines}
use Rattle.hp_class.proofs.Descending.{groups_end, turn_made, turn_refused}
use Rattle.hp_tuple_lines.specs.TupleLines.{tuples_plan}
use Rattle.hp_tuple_lines.proofs.Stepping.{all_fit_still, clause_lines, plan_by_clauses}
use Rattle.hp_tuple_lines.proofs.lines.add_tuple_lines.Goals as goal

pub loop-clause-init : goal.loop-clause-init
loop-clause-init c = record { fit = c.requires.fit; sound = c.requires.sound; rest = refl; begins = begins_same c.args.g.now }

pub returns-in_err-add_lines_of-clause-made : goal.returns-in_err-add_lines_of-clause-made
returns-in_err-add_lines_of-clause-made c =
    let xs = c.args.over.now in
    let clauses = c.args.clauses.now in
    let g = c.args.g.now in
    makes_other (in_turn (clause_lines xs) clauses) (plan_lines (tuples_plan xs clauses)) g c.add_lines_of.new.g c.from_residual.result (plan_by_clauses xs clauses g)
    (turn_refused (clause_lines xs) clauses c.loop-clause.clause-index c.clause-item.result c.loop-clause-test.true c.clause-item.is g c.loop-clause.g c.loop-clause.invariant.rest
    c.add_lines_of.new.g c.in_err-add_lines_of.field-0.0 c.from_residual.result c.in_err-add_lines_of.ensures.made c.from_residual.ensures.1)

pub loop-clause-preserved : goal.loop-clause-preserved
loop-clause-preserved c =
    let old = c.loop-clause.g in
    let new = c.add_lines_of.new.g in
    let v = c.loop-clause.invariant in
    let done = c.in_ok-add_lines_of.ensures in
    record {
      fit = all_fit_still old new c.args.over.now c.args.clauses.now done.kept done.sound.made v.fit;
      sound = done.sound;
      rest = turn_made (clause_lines c.args.over.now) c.args.clauses.now c.loop-clause.clause-index c.clause-item.result c.loop-clause-test.true c.clause-item.is
          c.args.g.now old v.rest new done.made;
      begins = begins_trans c.args.g.now old new v.begins done.kept;
    }

pub returns-clause-made : goal.returns-clause-made
returns-clause-made c =
    let xs = c.args.over.now in
    let clauses = c.args.clauses.now in
    plan_by_clauses xs clauses c.args.g.now
    ∙ groups_end (clause_lines xs) clauses c.loop-clause.clause-index c.args.g.now c.loop-clause.g c.loop-clause-test.false c.loop-clause.invariant.rest
