use Rattle.std.proofs.Common.{◌≤◌, ◌∙◌, ap, length, subst, sym}
use Rattle.std.proofs.lemmas.Bool.{ltb-false}
use Rattle.hp_lit.specs.Truth.{optional_value}
use Rattle.hp_path.proofs.Places.{zero_is}
use Rattle.hp_search.proofs.Wholes.{missing}
use Rattle.hp_search.proofs.truth.pointer_value.Goals as goal

pub returns-in-None : goal.returns-in-None
returns-in-None c = zero_is _ c.new-null.ensures ∙ sym (ap (optional_value c.args.v.now.values) c.in-None.is)

pub returns-in-None-get : goal.returns-in-None-get
returns-in-None-get c =
    let values = c.args.v.now.values in
    let n = c.in-Some.name.0 in
    let past : length c.as_slice.result.now ≤ n = ltb-false n (length c.as_slice.result.now) (sym c.in-None-get.ensures.lookup.0) in
    let end : length values ≤ n = subst (λ xs. length xs ≤ n) c.as_slice.ensures past in
    zero_is _ c.new-null.ensures ∙ sym (ap (optional_value values) c.in-Some.is ∙ missing values n end)
