use Rattle.std.proofs.Common.{◌≡◌, length, arith}
use Rattle.hp_shapes.proofs.Shapes.{form_read}
use Rattle.hp_shapes.proofs.shape.form_of.Goals as goal

pub returns-then-head-eq1 : goal.returns-then-head-eq1
returns-then-head-eq1 c =
    let two : length c.args.vars.now ≡ 2 = omega (arith, c.if-vars-eq2.true) in
    let one : length c.args.guard.now ≡ 1 = omega (arith, c.if-guard-eq1.true) in
    let last : length c.args.head.now ≡ 1 = omega (arith, c.if-head-eq1.true) in
    form_read c.args.func.now c.args.vars.now c.args.guard.now c.args.head.now c.index-vars-0.result c.index-vars-1.result c.index-guard-0.result c.index-head-0.result c.atoms_form.result
    two c.index-vars-0.is c.index-vars-1.is one c.index-guard-0.is last c.index-head-0.is c.atoms_form.ensures
