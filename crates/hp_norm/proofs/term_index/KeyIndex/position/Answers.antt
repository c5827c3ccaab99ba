use Rattle.std.specs.Cmp.Lexicographic.{pointwise, pointwise_decides}
use Rattle.std.specs.Ordering.{int_eq}
use Rattle.std.proofs.lemmas.Bool.Decides.{Decides-int_eq}
use Rattle.hp_defs.proofs.First.{first_by_test}
use Rattle.hp_norm.proofs.term_index.KeyIndex.position.Goals as goal

pub returns-clause-first : goal.returns-clause-first
returns-clause-first c =
    let x = c.args.key.now in
    rw (c.get_index_of.ensures.index, ← c.self.view_is) (first_by_test x (λ k. k.items) (λ k. pointwise int_eq x k.items) (λ k. pointwise_decides Decides-int_eq x k.items) c.self.inside.set.keys)
