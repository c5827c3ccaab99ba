use Rattle.std.proofs.Common.{rules, sym, ◌∙◌}
use Rattle.std.proofs.lemmas.List.Sorted.{answers_always}
use Rattle.hp_descent.proofs.Lookup.{found_value, missed_value}
use Rattle.hp_descent.proofs.sums.value_in.Goals as goal

pub returns-in-Ok : goal.returns-in-Ok
returns-in-Ok c =
    let by_name = c.in-Ok.ensures.position (λ nv. nv.name.0) (answers_always _ _ _ (λ f a r g called. search rules)) in
    sym (found_value c.args.values.now c.args.name.0 c.in-Ok.at c.index-values-at.result c.requires c.in-Ok.ensures.bound by_name)

pub returns-in-Err : goal.returns-in-Err
returns-in-Err c =
    let by_name = c.in-Err.ensures.position (λ nv. nv.name.0) (answers_always _ _ _ (λ f a r g called. search rules)) in
    c.fraction.ensures ∙ sym (missed_value c.args.values.now c.args.name.0 c.in-Err.field-0 c.requires by_name)
