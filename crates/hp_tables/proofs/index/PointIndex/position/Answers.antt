use Rattle.std.specs.Cmp.Lexicographic.{pointwise, pointwise_decides}
use Rattle.hp_tables.proofs.Telling.{same_coordinate, coordinates_tell}
use Rattle.hp_defs.proofs.First.{first_by_test}
use Rattle.hp_tables.proofs.index.PointIndex.position.Goals as goal

pub returns-clause-first : goal.returns-clause-first
returns-clause-first c =
    let x = c.args.point.now in
    rw (c.get_index_of.ensures.index, ← c.self.view_is) (first_by_test x (λ k. k.items) (λ k. pointwise same_coordinate x k.items) (λ k. pointwise_decides coordinates_tell x k.items) c.self.inside.set.keys)
