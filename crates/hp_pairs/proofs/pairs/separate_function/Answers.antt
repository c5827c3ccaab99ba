use Rattle.std.proofs.Common.{[], ◌++◌, ◌∙◌, Err, All, ap, arith, subst, sym}
use Rattle.std.proofs.lemmas.Result.{err_from_is_err_and}
use Rattle.std.proofs.lemmas.List.{take_all}
use Rattle.hp_local.specs.Rows.{argument_words}
use Rattle.hp_defs.specs.Names.{count, words}
use Rattle.hp_pairs.specs.Answers.{IsUnmet}
use Rattle.hp_pairs.specs.Branches.{branches_of, pairs_behind}
use Rattle.hp_pairs.proofs.First.{case_ends, case_passes, others_stay}
use Rattle.hp_pairs.proofs.pairs.separate_function.Goals as goal
use Rattle.hp_pairs.proofs.pairs.separate_function.Goals.{then-branch-func+in_ok-separate_branch, else-branch-func}

pub returns-in_err-separate_branch : goal.returns-in_err-separate_branch
returns-in_err-separate_branch c =
    let handed = err_from_is_err_and c.from_residual.result c.from_residual.ensures.1 in
    case_ends (words c.args.names.now ++ argument_words) (count c.args.names.now) c.args.func c.args.branches.now c.loop-at.at c.index-branches-at.result (omega (arith, c.loop-at-test.true)) c.index-branches-at.is
    c.in_err-separate_branch.field-0.0 c.from_residual.result c.if-branch-func.true (handed.1 ∙ ap (λ w. Err w) handed.2) c.loop-at.invariant c.in_err-separate_branch.ensures

pub loop-at-preserved : goal.loop-at-preserved
loop-at-preserved c =
    let w = words c.args.names.now ++ argument_words in
    let others = count c.args.names.now in
    let d = c.index-branches-at.result in
    elim c.if-branch-func.branch [
      | then-branch-func+in_ok-separate_branch t ↦ case_passes w others c.args.func c.args.branches.now c.loop-at.at d (omega (arith, c.loop-at-test.true)) c.index-branches-at.is t.if-branch-func.true c.loop-at.invariant t.in_ok-separate_branch.ensures
      | else-branch-func t ↦ subst (λ bs. All IsUnmet (pairs_behind [] bs)) (sym (others_stay w others c.args.func c.args.branches.now c.loop-at.at d (omega (arith, c.loop-at-test.true)) c.index-branches-at.is t.if-branch-func.false)) c.loop-at.invariant
    ]

pub returns : goal.returns
returns c =
    subst (λ bs. All IsUnmet (pairs_behind [] (branches_of c.args.func bs))) (take_all c.loop-at.at c.args.branches.now (omega (arith, c.loop-at-test.false))) c.loop-at.invariant
