use Rattle.std.proofs.Common.{◌≡◌, ◌∙◌, List, IfOk, map, subst, sym}
use Rattle.hp_instance.specs.declared.tuple.Tuple.{Tuple}
use Rattle.hp_class.specs.Places.{points_at}
use Rattle.hp_class.proofs.Places.{points_there}
use Rattle.hp_tables.proofs.InOrder.{all_inside}
use Rattle.hp_cases.specs.Cases.{point_tuple}
use Rattle.hp_cases.proofs.instances.tuples_of.Goals as goal

pub tuples_at-requires : goal.tuples_at-requires
tuples_at-requires c =
    all_inside c.args.func c.args.names.now.definitions c.definitions.result.now c.of_function.result.now c.definitions.ensures.definitions c.of_function.ensures

pub returns : goal.returns
returns c =
    let there = (λ j. points_at (c.definitions.ensures.definitions j) (c.of_function.ensures j)) ∙ sym (points_there c.args.func c.args.names.now.definitions) in
    subst (λ ps. IfOk c.tuples_at.result (λ (made : List Tuple). made ≡ map point_tuple ps)) there c.tuples_at.ensures
