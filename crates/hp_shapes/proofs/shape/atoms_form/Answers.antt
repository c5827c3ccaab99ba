use Rattle.std.proofs.Common.{◌∙◌, sym}
use Rattle.hp_shapes.proofs.Shapes.{atoms_read}
use Rattle.hp_shapes.proofs.shape.atoms_form.Goals as goal

pub returns-then-is_num-2 : goal.returns-then-is_num-2
returns-then-is_num-2 c =
    atoms_read c.args.func.now c.args.x.now c.args.y.now c.args.guard.now c.args.head.now c.name_sides-guard.result c.value_sides-head.result c.form_from.result
    (sym c.is_num.ensures ∙ c.if-is_num.true) (sym c.is_num-then-is_num.ensures ∙ c.if-is_num-2.true) (c.name_sides-guard.ensures c.args.func.now) c.value_sides-head.ensures c.form_from.ensures
