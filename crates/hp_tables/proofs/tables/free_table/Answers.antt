use Rattle.std.proofs.Common.{◌≡◌, List, subst, sym, IfOk}
use Rattle.std.specs.List.{All}
use Rattle.hp_lit.specs.declared.line.Def.{Def}
use Rattle.hp_local.specs.Frame.{Fact}
use Rattle.hp_local.specs.Free.{free_table}
use Rattle.hp_class.specs.Small.{HasSmallSums}
use Rattle.hp_tables.proofs.InOrder.{all_inside, facts_there}
use Rattle.hp_tables.proofs.SmallSums.{all_small}
use Rattle.hp_tables.proofs.tables.free_table.Goals as goal

pub table-requires-clause-inside : goal.table-requires-clause-inside
table-requires-clause-inside c =
    let same = c.definitions.ensures.definitions in
    all_inside c.args.func c.args.names.now.definitions c.definitions.result.now c.of_function-places.result.now same
    c.of_function-places.ensures

pub table-requires-clause-small : goal.table-requires-clause-small
table-requires-clause-small c =
    subst (λ (ds : List Def). All (HasSmallSums c.args.values.now) ds) (sym c.definitions.ensures.definitions)
    (all_small c.args.names.now c.args.values.now c.definitions.ensures.made c.requires.fit c.requires.sorted c.requires.small)

pub returns : goal.returns
returns c =
    let same = c.definitions.ensures.definitions in
    subst (λ (ks : List Fact). IfOk c.table.result (λ made. made ≡ free_table c.args.word.now c.args.args ks))
    (facts_there c.args.func c.args.word.now c.args.names.now c.args.values.now c.definitions.result.now c.of_function-places.result.now same c.of_function-places.ensures) c.table.ensures
