use Rattle.std.proofs.lemmas.List.Elements.{All-weaker}
use Rattle.hp_base.proofs.Making.{begins_names, begins_trans}
use Rattle.hp_class.specs.Group.{class_step}
use Rattle.hp_class.proofs.Descending.{all_done, groups_end, turn_made, turn_refused}
use Rattle.hp_class.proofs.Whole.{all_whole}
use Rattle.hp_class.proofs.groups.descend_groups.Goals as goal

pub returns-in_err-descend_group-clause-made : goal.returns-in_err-descend_group-clause-made
returns-in_err-descend_group-clause-made g c =
    let k = g.C.LocalClass in
    turn_refused (class_step k.grow_of k.own k.plan_of) c.args.groups.now c.loop-group.group-index c.group-item.result c.loop-group-test.true c.group-item.is
    c.args.g.now c.loop-group.g c.loop-group.invariant.rest c.descend_group.new.g c.in_err-descend_group.field-0.0 c.from_residual.result
    c.in_err-descend_group.ensures.made c.from_residual.ensures.1

pub loop-group-preserved : goal.loop-group-preserved
loop-group-preserved g c =
    let k = g.C.LocalClass in
    let old = c.loop-group.g in
    let new = c.descend_group.new.g in
    let done = c.in_ok-descend_group.ensures in
    record {
      lent = All-weaker (λ y. k.IsLent y old.names) (λ y. k.IsLent y new.names)
          (λ y h. g.met.C.LocalClass.stays_lent y old.names new.names h (begins_names old new done.kept) done.sound.made) c.args.groups.now c.loop-group.invariant.lent;
      sound = done.sound;
      rest = turn_made (class_step k.grow_of k.own k.plan_of) c.args.groups.now c.loop-group.group-index c.group-item.result c.loop-group-test.true c.group-item.is
          c.args.g.now old c.loop-group.invariant.rest new done.made;
      begins = begins_trans c.args.g.now old new c.loop-group.invariant.begins done.kept;
    }

pub returns-clause-turns : goal.returns-clause-turns
returns-clause-turns g c =
    let k = g.C.LocalClass in
    let law = g.met.C.LocalClass in
    (all_done k.grow_of k.own k.applied k.clauses k.plan_of k.IsLent law.stays_lent law.grows law.plan_fits c.args.groups.now tt c.args.g.now c.loop-group.g c.requires.sound c.requires.lent
    (groups_end (class_step k.grow_of k.own k.plan_of) c.args.groups.now c.loop-group.group-index c.args.g.now c.loop-group.g c.loop-group-test.false c.loop-group.invariant.rest)).turns

pub returns-clause-whole : goal.returns-clause-whole
returns-clause-whole g c = λ apart.
    let k = g.C.LocalClass in
    let law = g.met.C.LocalClass in
    (all_whole k.grow_of k.own k.applied k.clauses k.plan_of k.IsLent law.stays_lent law.grows law.plan_fits law.applies c.args.groups.now tt c.args.g.now c.loop-group.g c.requires.sound c.requires.lent apart
    (groups_end (class_step k.grow_of k.own k.plan_of) c.args.groups.now c.loop-group.group-index c.args.g.now c.loop-group.g c.loop-group-test.false c.loop-group.invariant.rest)).turns
