use Rattle.std.proofs.Common.{◌≡◌, ◌∙◌, ◌++◌, ◌∷◌, [], List, ℕ, Bool, cond, get_or, ap, sym, append-nil, refl}
use Rattle.std.specs.Prelude.{slice_get}
use Rattle.hp_fields.specs.Fields.{is_inside}
use Rattle.hp_fields.proofs.Tables.{got, places_step}
use Rattle.hp_fields.proofs.table.inside_places.Goals.{then-is_inside+in_ok-push, else-is_inside}
use Rattle.hp_fields.proofs.table.inside_places.Goals as goal

pub loop-place-preserved : goal.loop-place-preserved
loop-place-preserved c =
    let test : ℕ → Bool = λ k. is_inside c.args.size c.args.values.now (slice_get c.args.definitions.now k) in
    let k : ℕ = get_or c.args.places.now c.loop-place.place-index 0 in
    let old : List ℕ = c.loop-place.found in
    let told : test k ≡ c.is_inside.result =
    ap (λ o. is_inside c.args.size c.args.values.now o)
    (got c.args.definitions.now k c.index-definitions-place.result (c.requires.inside c.loop-place.place-index 0 c.loop-place-test.true) c.index-definitions-place.is)
    ∙ sym c.is_inside.ensures in
    places_step test c.args.places.now c.loop-place.place-index k old c.if-is_inside.found c.loop-place-test.true refl c.loop-place.invariant
    (elim c.if-is_inside.branch [
      | then-is_inside+in_ok-push w ↦ w.found-is ∙ w.in_ok-push.ensures.ok ∙ ap (λ b. old ++ cond {A = List ℕ} b (k ∷ []) []) (sym (told ∙ w.if-is_inside.true))
      | else-is_inside w ↦ w.found-is ∙ sym (append-nil old) ∙ ap (λ b. old ++ cond {A = List ℕ} b (k ∷ []) []) (sym (told ∙ w.if-is_inside.false))
    ])
