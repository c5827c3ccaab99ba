use Rattle.std.proofs.Common.{List, ap, map, subst, ◌∙◌, None, Some}
use Rattle.indexmap.proofs.MapLemmas.{OnOk-map}
use Rattle.hp_base.specs.Congruence.{point_of}
use Rattle.hp_base.specs.Values.{arg_values}
use Rattle.hp_defs.specs.First.{IsFirst}
use Rattle.hp_local.specs.Rows.{argument_words, number_term, point_guard, point_row}
use Rattle.hp_tables.specs.declared.index.Coordinate.{Coordinate}
use Rattle.hp_tables.specs.Kept.{coordinate}
use Rattle.hp_class.specs.Frame.{fact_of}
use Rattle.hp_tables.proofs.KeptPoints.{kept_added, kept_found, with_row}
use Rattle.hp_tables.proofs.tables.add_point.Goals as goal

pub returns-in-Some : goal.returns-in-Some
returns-in-Some c = λ word facts kept.
    let v = c.args.values.now in
    let d = c.args.definition.now in
    let args = c.in_ok-args.ensures ∙ ap (arg_values v) c.args_of.ensures in
    let point = c.in_ok-point.ensures ∙ ap (λ xs. map coordinate xs) (c.as_slice.ensures ∙ args) in
    let is = c.as_slice-2.ensures.value ∙ point in
    kept_found facts c.args.index.now c.args.rows.now (fact_of word v (point_of d)) c.in-Some.field-0 kept
    (subst (λ (xs : List Coordinate). IsFirst xs c.args.index.now (Some c.in-Some.field-0)) is c.in-Some.ensures.first)

pub returns : goal.returns
returns c = λ word facts kept.
    let v = c.args.values.now in
    let d = c.args.definition.now in
    let k = fact_of word v (point_of d) in
    let args = c.in_ok-args.ensures ∙ ap (arg_values v) c.args_of.ensures in
    let point = c.in_ok-point.ensures ∙ ap (λ xs. map coordinate xs) (c.as_slice.ensures ∙ args) in
    let is = c.as_slice-2.ensures.value ∙ point in
    let nowhere = subst (λ (xs : List Coordinate). IsFirst xs c.args.index.now None) is c.in-None.ensures.first in
    let guard = c.in_ok-guard-in-None.ensures ∙ ap (λ xs. point_guard argument_words xs) (c.as_slice-in-None.ensures ∙ args) in
    let value = c.in_ok-number_term-in-None.ensures ∙ ap number_term c.name_value-value.ensures in
    OnOk-map c.add.result _ _
    (λ added. kept_added facts c.args.index.now c.add.new.self c.args.rows.now c.push.new.self k kept nowhere
    (added ∙ with_row c.args.index.now c.in_ok-point.point.items _ point)
    (c.in_ok-push-in-None.ensures.ok ∙ with_row c.args.rows.now _ (point_row k) (λ j. record { guard = guard j; value = value j })))
    c.add.ensures.added
