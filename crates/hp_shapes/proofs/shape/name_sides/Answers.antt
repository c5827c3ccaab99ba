use Rattle.std.proofs.Common.{◌∙◌, ◌&&◌}
use Rattle.hp_shapes.specs.Shapes.{sides_from}
use Rattle.hp_shapes.proofs.shape.name_sides.Goals as goal

pub returns : goal.returns
returns c = λ func.
    let forward = c.both-forward.ensures ∙ (λ i. c.is_name.ensures func i && c.is_name-2.ensures func i) in
    let backward = c.both-backward.ensures ∙ (λ i. c.is_name-3.ensures func i && c.is_name-4.ensures func i) in
    c.sides_from.ensures ∙ (λ i. sides_from (forward i) (backward i) (c.turning.ensures i))
