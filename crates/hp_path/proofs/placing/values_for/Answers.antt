use Rattle.std.proofs.Common.{◌++◌, sym, ◌∙◌, ap, subst}
use Rattle.std.specs.List.{All}
use Rattle.hp_descent.specs.Values.{value_in}
use Rattle.hp_path.specs.Placed.{AreApart, IsValueOver}
use Rattle.hp_path.proofs.Mixed.{agrees, all_apart, all_over, are_values}
use Rattle.hp_path.proofs.placing.values_for.Goals as goal

pub values_of-requires-clause-apart : goal.values_of-requires-clause-apart
values_of-requires-clause-apart c =
    let e = c.as_slice.ensures ∙ c.in_ok-push_values-2.ensures ∙ ap (λ nvs. nvs ++ c.args.values.now) c.in_ok-push_values.ensures in
    subst AreApart (sym e) (all_apart c.args.sorts.now c.args.lits.now c.args.pointers c.args.point.now c.args.values.now c.requires.fit c.requires.pointers c.requires.point c.requires.values)

pub values_of-requires-clause-over : goal.values_of-requires-clause-over
values_of-requires-clause-over c =
    let ss = c.args.sorts.now in
    let e = c.as_slice.ensures ∙ c.in_ok-push_values-2.ensures ∙ ap (λ nvs. nvs ++ c.args.values.now) c.in_ok-push_values.ensures in
    subst (All (IsValueOver ss)) (sym e) (all_over ss c.args.lits.now c.args.pointers c.args.point.now c.args.values.now c.requires.fit c.requires.pointers c.requires.point c.requires.values)

pub returns-clause-values : goal.returns-clause-values
returns-clause-values c =
    let e = c.as_slice.ensures ∙ c.in_ok-push_values-2.ensures ∙ ap (λ nvs. nvs ++ c.args.values.now) c.in_ok-push_values.ensures in
    are_values c.args.sorts.now c.args.lits.now c.args.pointers c.args.point.now c.args.values.now c.requires.fit c.requires.pointers c.requires.point c.requires.values _
    c.in_ok-all.ensures.sorted c.in_ok-all.ensures.small (λ n. c.in_ok-all.ensures.given n ∙ ap (λ nvs. value_in nvs n) e)

pub returns-clause-agree : goal.returns-clause-agree
returns-clause-agree c = λ n s.
    let e = c.as_slice.ensures ∙ c.in_ok-push_values-2.ensures ∙ ap (λ nvs. nvs ++ c.args.values.now) c.in_ok-push_values.ensures in
    c.in_ok-all.ensures.given n ∙ ap (λ nvs. value_in nvs n) e
    ∙ agrees c.args.sorts.now c.args.lits.now c.args.pointers c.args.point.now c.args.values.now c.requires.fit c.requires.pointers c.requires.point c.requires.values n s
