use Rattle.std.proofs.Common.{◌≡◌, ◌∙◌, ap, arith, get_or, sym}
use Rattle.std.proofs.lemmas.Option.{get_or_from_slice_get, slice_get_within}
use Rattle.hp_path.specs.Components.{first_label}
use Rattle.hp_path.proofs.Gathering.{label_small, last_label}
use Rattle.hp_path.proofs.belonging.label_of_last.Goals as goal

pub returns-clause-label : goal.returns-clause-label
returns-clause-label c =
    c.first_label.ensures ∙ ap (first_label c.args.labels.now) c.as_slice.ensures
    ∙ last_label c.args.labels.now c.args.nums.now _ c.get.result.now c.get.ensures (omega arith)

pub returns-clause-below : goal.returns-clause-below
returns-clause-below c =
    let nums = c.args.nums.now in
    let lit = c.get.result.now in
    let at : lit ≡ get_or nums _ lit = sym (get_or_from_slice_get nums _ lit lit c.get.ensures) in
    let small = label_small c.args.labels.now nums lit _ c.requires (slice_get_within nums _ lit c.get.ensures) at in
    let e = c.first_label.ensures ∙ ap (first_label c.args.labels.now) c.as_slice.ensures in
    omega (arith, small, e)
