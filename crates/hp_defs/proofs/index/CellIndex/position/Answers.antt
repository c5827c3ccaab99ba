use Rattle.std.specs.Cmp.Lexicographic.{pointwise, pointwise_decides}
use Rattle.hp_defs.proofs.Telling.{same_cell, cells_tell}
use Rattle.hp_defs.proofs.First.{first_by_test}
use Rattle.hp_defs.proofs.index.CellIndex.position.Goals as goal

pub returns-clause-first : goal.returns-clause-first
returns-clause-first c =
    let x = c.args.cells.now in
    rw (c.get_index_of.ensures.index, ← c.self.view_is) (first_by_test x (λ k. k.items) (λ k. pointwise same_cell x k.items) (λ k. pointwise_decides cells_tell x k.items) c.self.inside.set.keys)
