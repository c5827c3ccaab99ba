use Rattle.hp_shapes.proofs.Shapes as shapes
use Rattle.hp_shapes.proofs.laws.shapes_are_those_of_clauses.Goals as goal

pub returns : goal.returns
returns c = record { written = shapes.shapes_are_written; found = shapes.shapes_are_found }
