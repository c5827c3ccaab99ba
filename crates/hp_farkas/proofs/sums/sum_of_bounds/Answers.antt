use Rattle.std.proofs.Common.{◌≡◌, ◌∙◌, ℤ, ap, refl, arith, pos, to_z, of_z, Err}
use Rattle.std.specs.Int.{w128}
use Rattle.std.proofs.lemmas.Int.{ints}
use Rattle.std.proofs.lemmas.Result.{err_from_is_err_and}
use Rattle.hp_num.specs.declared.wide.Wide.{Wide}
use Rattle.std.specs.Prelude.{Result}
use Rattle.hp_lit.specs.Leaf.{Taken}
use Rattle.hp_farkas.specs.Sums.{add_product, bound_from}
use Rattle.hp_farkas.proofs.Loops.{sum_err, sum_ok}
use Rattle.hp_farkas.proofs.sums.sum_of_bounds.Goals as goal

abbrev add : ℤ → Taken → Result ℤ Wide
add s t = add_product s t.times t.lit.bound

pub returns-in_err-add_bound : goal.returns-in_err-add_bound
returns-in_err-add_bound c = λ taken a.
    let p = err_from_is_err_and c.from_residual.result c.from_residual.ensures.1 in
    let z = to_z w128 (of_z w128 c.loop-share.total.sum) in
    let s : c.loop-share.total.sum ≡ z = omega (arith, ints) in
    let e = sum_err add bound_from (λ s t ts. refl) c.args.path.now c.args.shares.now c.loop-share.share-index _ c.loop-share.total.sum c.loop-share-test.true (bound_from (pos 0) taken) (c.loop-share.invariant taken a) in
    p.1 ∙ ap (λ w. Err w) p.2 ∙ e z s c.add_bound.result c.in_err-add_bound.field-0.0 c.in_err-add_bound.was c.add_bound.ensures

pub loop-share-preserved : goal.loop-share-preserved
loop-share-preserved c = λ taken a.
    let z = to_z w128 (of_z w128 c.loop-share.total.sum) in
    let v = to_z w128 (of_z w128 c.in_ok-add_bound.field-0) in
    let s : c.loop-share.total.sum ≡ z = omega (arith, ints) in
    let n : c.in_ok-add_bound.field-0 ≡ v = omega (arith, ints) in
    let m = sum_ok add bound_from (λ s t ts. refl) c.args.path.now c.args.shares.now c.loop-share.share-index _ c.loop-share.total.sum c.loop-share-test.true (bound_from (pos 0) taken) (c.loop-share.invariant taken a) in
    m z s c.add_bound.result c.in_ok-add_bound.field-0 v n c.in_ok-add_bound.was c.add_bound.ensures
