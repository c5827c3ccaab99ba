use Rattle.std.proofs.Common.{◌∙◌, ◌++◌, replicate, ap}
use Rattle.hp_tuples.specs.Tuples.{tuples_from}
use Rattle.hp_tuples.proofs.Counting.{first_all}
use Rattle.hp_tuples.proofs.tuples.first_tuple.Goals as goal

pub returns-clause-first : goal.returns-clause-first
returns-clause-first c size some =
    ap (tuples_from size) (c.add_zeros.ensures.items ∙ ap (λ xs. xs ++ replicate c.args.count 0) c.new-tuple.ensures.items) ∙ first_all size c.args.count some
