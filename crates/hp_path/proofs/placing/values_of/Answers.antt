use Rattle.std.proofs.Common.{sym, ◌∙◌, ap, subst}
use Rattle.hp_lit.specs.Sorts.{AreOfSorts}
use Rattle.hp_lit.specs.Truth.{name_value}
use Rattle.hp_path.specs.Placed.{put_all}
use Rattle.hp_path.proofs.Places.{all_values, all_within, put_sorted, values_small, zeros_sorted}
use Rattle.hp_path.proofs.placing.values_of.Goals as goal

pub put-requires : goal.put-requires
put-requires c =
    let ss = c.args.sorts.now in
    let e = c.in_ok-values.ensures in
    all_within ss _ c.args.point.now (subst (AreOfSorts ss) (sym e) (zeros_sorted ss)) c.requires.over

pub returns-clause-sorted : goal.returns-clause-sorted
returns-clause-sorted c =
    let ss = c.args.sorts.now in
    let e = c.in_ok-values.ensures in
    subst (AreOfSorts ss) (sym c.put.ensures) (put_sorted ss _ c.args.point.now (subst (AreOfSorts ss) (sym e) (zeros_sorted ss)) c.requires.over)

pub returns-clause-small : goal.returns-clause-small
returns-clause-small c =
    let ss = c.args.sorts.now in
    let e = c.in_ok-values.ensures in
    values_small ss c.args.point.now _ c.requires.over
    (λ n. ap (λ v. name_value v n) (c.put.ensures ∙ ap (λ v. put_all v c.args.point.now) e) ∙ all_values ss c.args.point.now n c.requires.over c.requires.apart)

pub returns-clause-given : goal.returns-clause-given
returns-clause-given c n =
    let ss = c.args.sorts.now in
    let e = c.in_ok-values.ensures in
    ap (λ v. name_value v n) (c.put.ensures ∙ ap (λ v. put_all v c.args.point.now) e) ∙ all_values ss c.args.point.now n c.requires.over c.requires.apart
