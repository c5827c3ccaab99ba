use Rattle.std.proofs.Common.{refl}
use Rattle.hp_base.proofs.Making.{begins_same, begins_trans}
use Rattle.hp_class.proofs.Descending.{turn_made}
use Rattle.hp_cases.specs.Cases.{clause_lines}
use Rattle.hp_cases.proofs.Adding.{all_fit_still}
use Rattle.hp_cases.proofs.instances.add_instances.Goals as goal

pub loop-clause-init : goal.loop-clause-init
loop-clause-init c = record { fit = c.requires.fit; sound = c.requires.sound; rest = refl; begins = begins_same c.args.g.now }

pub loop-clause-preserved : goal.loop-clause-preserved
loop-clause-preserved c =
    let old = c.loop-clause.g in
    let new = c.add_instances_of.new.g in
    let v = c.loop-clause.invariant in
    let done = c.in_ok-add_instances_of.ensures in
    record {
      fit = all_fit_still old new c.args.tuples.now c.args.clauses.now done.kept done.sound.made v.fit;
      sound = done.sound;
      rest = turn_made (clause_lines c.args.tuples.now) c.args.clauses.now c.loop-clause.clause-index c.clause-item.result c.loop-clause-test.true c.clause-item.is
          c.args.g.now old v.rest new done.made;
      begins = begins_trans c.args.g.now old new v.begins done.kept;
    }
