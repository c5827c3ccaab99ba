use Rattle.std.proofs.Common.{◌∙◌, ◌++◌, ◌∷◌, [], List, get_or, refl, sym, ap}
use Rattle.hp_instance.specs.declared.tuple.Tuple.{Tuple}
use Rattle.hp_base.specs.Congruence.{point_of}
use Rattle.hp_cases.specs.Cases.{point_tuple}
use Rattle.hp_cases.proofs.Adding.{tuples_next}
use Rattle.hp_cases.proofs.instances.tuples_at.Goals as goal

pub loop-place-preserved : goal.loop-place-preserved
loop-place-preserved c =
    let places = c.args.places.now in
    let i = c.loop-place.place-index in
    let next = tuples_next c.args.definitions.now places i (get_or places i 0) c.index-definitions-place.result
    c.loop-place-test.true refl (c.requires i 0 c.loop-place-test.true) c.index-definitions-place.is in
    c.in_ok-push.ensures.ok ∙ ap (λ (t : Tuple). c.loop-place.tuples ++ t ∷ []) c.in_ok-tuple_of.ensures
    ∙ ap (λ (ts : List Tuple). ts ++ point_tuple (point_of c.index-definitions-place.result) ∷ []) c.loop-place.invariant ∙ sym next
