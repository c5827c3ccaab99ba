use Rattle.std.proofs.Common.{◌≡◌, ◌∙◌, ℕ, ℤ, ap, refl, arith, pos, to_z, of_z, Err}
use Rattle.std.specs.Int.{w128}
use Rattle.std.proofs.lemmas.Int.{ints}
use Rattle.std.proofs.lemmas.Result.{err_from_is_err_and}
use Rattle.hp_num.specs.declared.wide.Wide.{Wide}
use Rattle.std.specs.Prelude.{Result}
use Rattle.hp_lit.specs.Leaf.{Taken}
use Rattle.hp_farkas.specs.Sums.{add_parts, sum_from}
use Rattle.hp_farkas.proofs.Loops.{sum_err, sum_ok}
use Rattle.hp_farkas.proofs.sums.sum_of_name.Goals as goal

abbrev add : ℕ → ℤ → Taken → Result ℤ Wide
add n s t = add_parts n t.times s t.lit.parts

pub returns-in_err-add_share : goal.returns-in_err-add_share
returns-in_err-add_share c = λ taken a.
    let p = err_from_is_err_and c.from_residual.result c.from_residual.ensures.1 in
    let z = to_z w128 (of_z w128 c.loop-share.total.sum) in
    let s : c.loop-share.total.sum ≡ z = omega (arith, ints) in
    let e = sum_err (add c.args.name.0) (sum_from c.args.name.0) (λ s t ts. refl) c.args.path.now c.args.shares.now c.loop-share.share-index _ c.loop-share.total.sum c.loop-share-test.true (sum_from c.args.name.0 (pos 0) taken) (c.loop-share.invariant taken a) in
    p.1 ∙ ap (λ w. Err w) p.2 ∙ e z s c.add_share.result c.in_err-add_share.field-0.0 c.in_err-add_share.was c.add_share.ensures

pub loop-share-preserved : goal.loop-share-preserved
loop-share-preserved c = λ taken a.
    let z = to_z w128 (of_z w128 c.loop-share.total.sum) in
    let v = to_z w128 (of_z w128 c.in_ok-add_share.field-0) in
    let s : c.loop-share.total.sum ≡ z = omega (arith, ints) in
    let n : c.in_ok-add_share.field-0 ≡ v = omega (arith, ints) in
    let m = sum_ok (add c.args.name.0) (sum_from c.args.name.0) (λ s t ts. refl) c.args.path.now c.args.shares.now c.loop-share.share-index _ c.loop-share.total.sum c.loop-share-test.true (sum_from c.args.name.0 (pos 0) taken) (c.loop-share.invariant taken a) in
    m z s c.add_share.result c.in_ok-add_share.field-0 v n c.in_ok-add_share.was c.add_share.ensures
