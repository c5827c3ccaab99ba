use Rattle.std.proofs.Common.{◌≡◌, ◌++◌, ◌∙◌, Err, All, ap, arith, subst}
use Rattle.std.proofs.lemmas.Result.{err_from_is_err_and}
use Rattle.hp_local.specs.Rows.{argument_words}
use Rattle.hp_defs.specs.Names.{count, words}
use Rattle.hp_pairs.specs.Answers.{IsUnmet}
use Rattle.hp_pairs.specs.Branches.{pairs_from}
use Rattle.hp_pairs.proofs.First.{function_ends, function_passes}
use Rattle.hp_pairs.proofs.pairs.separate.Goals as goal

pub returns-in_err-separate_function : goal.returns-in_err-separate_function
returns-in_err-separate_function c =
    let handed = err_from_is_err_and c.from_residual.result c.from_residual.ensures.1 in
    function_ends (words c.args.names.now ++ argument_words) (count c.args.names.now) c.args.branches.now c.loop-func.func c.args.functions
    c.in_err-separate_function.field-0.0 c.from_residual.result (omega (arith, c.loop-func-test.true)) (handed.1 ∙ ap (λ w. Err w) handed.2) c.loop-func.invariant c.in_err-separate_function.ensures

pub loop-func-preserved : goal.loop-func-preserved
loop-func-preserved c = function_passes c.args.branches.now c.loop-func.func c.loop-func.invariant c.in_ok-separate_function.ensures

pub returns : goal.returns
returns c =
    let end : c.loop-func.func ≡ c.args.functions = omega (arith, c.loop-func-test.false, c.loop-func.auto) in
    subst (λ n. All IsUnmet (pairs_from c.args.branches.now 0 n)) end c.loop-func.invariant
