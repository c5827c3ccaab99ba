use Rattle.std.proofs.Common.{pos, ◌≤ℤ◌, ◌<ℤ◌, ◌*◌, unsigned_abs, ap, ◌∙◌, arith}
use Rattle.std.specs.Ordering.{nat_cmp}
use Rattle.std.proofs.lemmas.Int.{ints}
use Rattle.hp_num.proofs.Compare.{equal_pos, equal_neg}
use Rattle.hp_num.proofs.frac.Frac.cmp.Goals as goal

pub returns-then-num-lt0-2-clause-equal : goal.returns-then-num-lt0-2-clause-equal
returns-then-num-lt0-2-clause-equal c =
    let p : c.args.left.num <ℤ pos 0 = (let a = c.num.ensures in let b = c.if-num-lt0.true in omega (arith, ints)) in
    let q : c.args.right.num <ℤ pos 0 = (let a = c.num-then-num-lt0.ensures in let b = c.if-num-lt0-2.true in omega (arith, ints)) in
    let m = c.magnitude-left_top.ensures.value ∙ ap unsigned_abs c.top.ensures in
    let n = c.magnitude-right_top.ensures.value ∙ ap unsigned_abs c.top-2.ensures in
    let d = c.magnitude-left_below.ensures.value ∙ ap unsigned_abs c.below.ensures in
    let e = c.magnitude-right_below.ensures.value ∙ ap unsigned_abs c.below-2.ensures in
    equal_neg c.args.left c.args.right c.compare.result (c.compare.ensures ∙ (λ i. nat_cmp (n i * d i) (m i * e i))) p q

pub returns-else-num-lt0-3-clause-equal : goal.returns-else-num-lt0-3-clause-equal
returns-else-num-lt0-3-clause-equal c =
    let p : pos 0 ≤ℤ c.args.left.num = (let a = c.num.ensures in let b = c.if-num-lt0.false in omega (arith, ints)) in
    let q : pos 0 ≤ℤ c.args.right.num = (let a = c.num-else-num-lt0.ensures in let b = c.if-num-lt0-3.false in omega (arith, ints)) in
    let m = c.magnitude-left_top.ensures.value ∙ ap unsigned_abs c.top.ensures in
    let n = c.magnitude-right_top.ensures.value ∙ ap unsigned_abs c.top-2.ensures in
    let d = c.magnitude-left_below.ensures.value ∙ ap unsigned_abs c.below.ensures in
    let e = c.magnitude-right_below.ensures.value ∙ ap unsigned_abs c.below-2.ensures in
    equal_pos c.args.left c.args.right c.compare-else-num-lt0-3.result (c.compare-else-num-lt0-3.ensures ∙ (λ i. nat_cmp (m i * e i) (n i * d i))) p q
