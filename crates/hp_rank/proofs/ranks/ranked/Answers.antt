use Rattle.std.proofs.Common.{◌≡◌, ap, ◌∙◌, length, subst, sym}
use Rattle.std.proofs.lemmas.Result.{IfOk-weaker}
use Rattle.hp_lit.specs.Sorts.{AreOfSorts}
use Rattle.hp_rank.specs.Ranks.{rank, ranked}
use Rattle.hp_rank.proofs.Pointers.{all_of_sorts}
use Rattle.hp_rank.proofs.Steps.{same_length}
use Rattle.hp_rank.proofs.ranks.ranked.Goals as goal

pub ranks_of-requires-clause-same : goal.ranks_of-requires-clause-same
ranks_of-requires-clause-same c = same_length c.args.sorts.now c.args.values.now.values c.requires.sorted ∙ ap length (sym c.as_slice.ensures)

pub returns-clause-sorted : goal.returns-clause-sorted
returns-clause-sorted c =
    let sorts = c.args.sorts.now in
    let v = c.args.values.now.values in
    let kept = all_of_sorts (rank c.args.first sorts v) sorts v c.requires.sorted in
    let same = ap (ranked c.args.first sorts) c.as_slice.ensures in
    IfOk-weaker c.ranks_of.result (λ by_rank. by_rank.values.values ≡ ranked c.args.first sorts c.as_slice.result.now) (λ by_rank. AreOfSorts sorts by_rank.values.values)
    (λ by_rank e. subst (AreOfSorts sorts) (sym (e ∙ same)) kept) c.ranks_of.ensures.values
