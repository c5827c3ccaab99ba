use Rattle.std.proofs.Common.{sym, ap, ◌∙◌}
use Rattle.hp_index.specs.Forms.{index_of, minus_form, plus_form}
use Rattle.hp_index.proofs.Layers.{index-Add, index-Sub}
use Rattle.hp_index.proofs.Steps.{form_found}
use Rattle.hp_index.proofs.form.+index_form.Goals as goal

pub returns-in-Some-index_form : goal.returns-in-Some-index_form
returns-in-Some-index_form t c =
    let words = c.args.index.now in
    let x = sym (c.in-Some.ensures.0 ∙ ap (index_of words) c.get.ensures) in
    let y = sym (c.in-Some-index_form.ensures.0 ∙ ap (index_of words) c.get-in-Some.ensures) in
    form_found words c.args.term.now (plus_form c.in-Some.first c.in-Some-index_form.second) c.sum.result
    (ap (index_of words) c.in-Add.is ∙ index-Add words c.in-Add.left c.in-Add.right ∙ (λ i. plus_form (x i) (y i))) c.sum.ensures

pub returns-in-Some-index_form-3 : goal.returns-in-Some-index_form-3
returns-in-Some-index_form-3 t c =
    let words = c.args.index.now in
    let x = sym (c.in-Some-index_form-2.ensures.0 ∙ ap (index_of words) c.get-in-Sub.ensures) in
    let y = sym (c.in-Some-index_form-3.ensures.0 ∙ ap (index_of words) c.get-in-Some-index_form-2.ensures) in
    form_found words c.args.term.now (minus_form c.in-Some-index_form-2.first c.in-Some-index_form-3.second) c.difference.result
    (ap (index_of words) c.in-Sub.is ∙ index-Sub words c.in-Sub.left c.in-Sub.right ∙ (λ i. minus_form (x i) (y i))) c.difference.ensures
