use Rattle.std.proofs.Common.{◌++◌, ◌∙◌, Err, All, ap, arith, map, subst, sym}
use Rattle.std.proofs.lemmas.Result.{err_from_is_err_and}
use Rattle.std.proofs.lemmas.List.{take_all}
use Rattle.hp_local.specs.Rows.{argument_words}
use Rattle.hp_defs.specs.Names.{count, words}
use Rattle.hp_pairs.specs.Answers.{IsUnmet}
use Rattle.hp_pairs.specs.Branches.{branches_of, overlap}
use Rattle.hp_pairs.proofs.First.{guard_ends, guard_passes, others_stay}
use Rattle.hp_pairs.proofs.pairs.separate_guards.Goals as goal
use Rattle.hp_pairs.proofs.pairs.separate_guards.Goals.{then-other-func+in_ok-separate_pair, else-other-func}

pub returns-in_err-separate_pair : goal.returns-in_err-separate_pair
returns-in_err-separate_pair c =
    let handed = err_from_is_err_and c.from_residual.result c.from_residual.ensures.1 in
    guard_ends (words c.args.names.now ++ argument_words) (count c.args.names.now) c.args.func c.args.earlier.now c.loop-at.at c.index-earlier-at.result (omega (arith, c.loop-at-test.true)) c.index-earlier-at.is
    c.args.branch.now c.in_err-separate_pair.field-0.0 c.from_residual.result c.if-other-func.true (handed.1 ∙ ap (λ w. Err w) handed.2) c.loop-at.invariant c.in_err-separate_pair.ensures

pub loop-at-preserved : goal.loop-at-preserved
loop-at-preserved c =
    let w = words c.args.names.now ++ argument_words in
    let others = count c.args.names.now in
    let d = c.index-earlier-at.result in
    elim c.if-other-func.branch [
      | then-other-func+in_ok-separate_pair t ↦ guard_passes w others c.args.func c.args.earlier.now c.loop-at.at d (omega (arith, c.loop-at-test.true)) c.index-earlier-at.is c.args.branch.now t.if-other-func.true c.loop-at.invariant t.in_ok-separate_pair.ensures
      | else-other-func t ↦ subst (λ bs. All IsUnmet (map (overlap c.args.branch.now) bs)) (sym (others_stay w others c.args.func c.args.earlier.now c.loop-at.at d (omega (arith, c.loop-at-test.true)) c.index-earlier-at.is t.if-other-func.false)) c.loop-at.invariant
    ]

pub returns : goal.returns
returns c =
    subst (λ bs. All IsUnmet (map (overlap c.args.branch.now) (branches_of c.args.func bs))) (take_all c.loop-at.at c.args.earlier.now (omega (arith, c.loop-at-test.false))) c.loop-at.invariant
