use Rattle.std.proofs.Common.{ℤ, Result, IfErr, sym, subst, ◌∙◌, FitsSigned, rules}
use Rattle.std.proofs.lemmas.Int.{to_z-of_z}
use Rattle.std.specs.Int.{w128}
use Rattle.hp_num.specs.declared.wide.Wide.{Wide}
use Rattle.hp_num.specs.Wide.{Passes}
use Rattle.hp_num.proofs.Sums.{difference_exact, difference_narrow}
use Rattle.hp_num.proofs.Refused.{minus_passes}
use Rattle.hp_num.proofs.wide.whole_mul_sub.Goals as goal

pub returns-clause-exact : goal.returns-clause-exact
returns-clause-exact c =
    let f : FitsSigned w128 c.in_ok-left.left = search rules in
    let g : FitsSigned w128 c.in_ok-right.right = search rules in
    let fd : FitsSigned w128 c.args.d = c.ranges.d in
    let fa : FitsSigned w128 c.args.a = c.ranges.a in
    let fc : FitsSigned w128 c.args.c = c.ranges.c in
    let fb : FitsSigned w128 c.args.b = c.ranges.b in
    let s = simp to_z-of_z at (sym c.times.ensures ∙ c.in_ok-left.was) in
    let t = simp to_z-of_z at (sym c.times-2.ensures ∙ c.in_ok-right.was) in
    let e = simp to_z-of_z at c.minus.ensures in
    difference_exact c.args.d c.args.a c.args.c c.args.b c.in_ok-left.left c.in_ok-right.right s t c.minus.result e

pub returns-clause-narrow : goal.returns-clause-narrow
returns-clause-narrow c =
    let f : FitsSigned w128 c.in_ok-left.left = search rules in
    let g : FitsSigned w128 c.in_ok-right.right = search rules in
    let e = simp to_z-of_z at c.minus.ensures in
    difference_narrow c.in_ok-left.left c.in_ok-right.right c.minus.result e

pub returns-clause-passes : goal.returns-clause-passes
returns-clause-passes c =
    let f : FitsSigned w128 c.in_ok-left.left = search rules in
    let g : FitsSigned w128 c.in_ok-right.right = search rules in
    let e = simp to_z-of_z at c.minus.ensures in
    subst (λ (r : Result ℤ Wide). IfErr r Passes) (sym e) (minus_passes c.in_ok-left.left c.in_ok-right.right)
