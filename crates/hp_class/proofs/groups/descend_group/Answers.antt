use Rattle.hp_base.proofs.Making.{begins_names, makes_first, makes_same_err, makes_second}
use Rattle.hp_class.specs.Group.{class_step, group_lines}
use Rattle.hp_class.proofs.Descending.{group_sound}
use Rattle.hp_class.proofs.groups.descend_group.Goals as goal

pub lines-requires-clause-lent : goal.lines-requires-clause-lent
lines-requires-clause-lent g c =
    let law = g.met.C.LocalClass in
    let grown = law.grows c.args.group.now tt c.args.g.now c.grow.new.g c.requires.lent c.requires.sound c.in_ok-grow.ensures.made in
    law.stays_lent c.args.group.now c.args.g.now.names c.grow.new.g.names c.requires.lent (begins_names c.args.g.now c.grow.new.g c.in_ok-grow.ensures.kept) grown.sound.made

pub lines-requires-clause-sound : goal.lines-requires-clause-sound
lines-requires-clause-sound g c = (g.met.C.LocalClass.grows c.args.group.now tt c.args.g.now c.grow.new.g c.requires.lent c.requires.sound c.in_ok-grow.ensures.made).sound

pub returns-in_err-grow-clause-made : goal.returns-in_err-grow-clause-made
returns-in_err-grow-clause-made g c =
    let k = g.C.LocalClass in
    let x = c.args.group.now in
    makes_same_err (class_step k.grow_of k.own k.plan_of x) c.args.g.now c.grow.new.g c.from_residual.result c.in_err-grow.field-0.0 c.from_residual.ensures.1
    (makes_first (k.grow_of x) (λ done. group_lines (k.own x) (k.plan_of x)) c.args.g.now c.grow.new.g c.in_err-grow.field-0.0 c.in_err-grow.ensures.made)

pub returns-clause-made : goal.returns-clause-made
returns-clause-made g c =
    let k = g.C.LocalClass in
    let x = c.args.group.now in
    makes_second (k.grow_of x) (λ done. group_lines (k.own x) (k.plan_of x)) tt c.args.g.now c.grow.new.g c.lines.new.g c.lines.result c.in_ok-grow.ensures.made c.lines.ensures.made

pub returns-clause-sound : goal.returns-clause-sound
returns-clause-sound g c =
    let k = g.C.LocalClass in
    let law = g.met.C.LocalClass in
    let x = c.args.group.now in
    let mid = c.grow.new.g in
    let grown = law.grows x tt c.args.g.now mid c.requires.lent c.requires.sound c.in_ok-grow.ensures.made in
    let lent = law.stays_lent x c.args.g.now.names mid.names c.requires.lent (begins_names c.args.g.now mid c.in_ok-grow.ensures.kept) grown.sound.made in
    group_sound (k.own x) (k.clauses x) (k.plan_of x) mid c.lines.new.g c.lines.result grown.sound (law.plan_fits x mid.names lent grown.sound.made grown.sound.names) c.lines.ensures.made
