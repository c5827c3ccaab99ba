use Rattle.std.proofs.Common.{List, length, ap, subst, sym, ◌∙◌, arith}
use Rattle.hp_tree.specs.declared.problem.Sort.{Sort}
use Rattle.hp_lit.specs.Sorts.{AreOfSorts, HaveSorts}
use Rattle.hp_lit.specs.Truth.{Values}
use Rattle.hp_defs.specs.declared.names.Constant.{Constant}
use Rattle.hp_defs.specs.Names.{sorts}
use Rattle.hp_defs.proofs.Growing.{length_sorts}
use Rattle.hp_rank.specs.Ranks.{ranked}
use Rattle.hp_rank.proofs.Steps.{same_length}
use Rattle.hp_class.specs.Small.{AreSmallIdx}
use Rattle.hp_chain.proofs.Ascending.{ranked_small}
use Rattle.hp_chain.proofs.ValuesSorts.{have_sorts}
use Rattle.hp_chain.proofs.structures.ascend.Goals as goal

pub const_values-requires : goal.const_values-requires
const_values-requires c =
    let values = c.in_ok-by_rank.by_rank.values.values in
    let same = same_length c.args.sorts.now values c.in_ok-by_rank.ensures.sorted in
    let all = ap (λ (ss : List Sort). length ss) c.requires.sorts ∙ length_sorts c.args.g.now.names in
    let constants = ap (λ (cs : List Constant). length cs) c.constants.ensures.constants in
    let ranks = ap (λ (v : Values). length v) c.as_slice-ranks.ensures in
    omega (arith, same, all, constants, ranks)

pub tables-requires-clause-sorted : goal.tables-requires-clause-sorted
tables-requires-clause-sorted c =
    let names = c.args.g.now.names in
    let values = c.in_ok-by_rank.by_rank.values.values in
    let sorted = subst (λ (ss : List Sort). AreOfSorts ss values) c.requires.sorts c.in_ok-by_rank.ensures.sorted in
    subst (λ (v : Values). HaveSorts (sorts names) v) (sym c.as_slice-ranks.ensures) (have_sorts (sorts names) values sorted)

pub tables-requires-clause-small : goal.tables-requires-clause-small
tables-requires-clause-small c =
    let names = c.args.g.now.names in
    let ss = c.args.sorts.now in
    let v = c.args.values.now.values in
    let first = c.count.result in
    let small = subst (λ (us : List Sort). AreSmallIdx us (ranked first ss v)) c.requires.sorts (ranked_small first ss v c.requires.small) in
    subst (λ (w : Values). AreSmallIdx (sorts names) w) (sym (c.as_slice-ranks.ensures ∙ c.in_ok-by_rank.ensures.values)) small
