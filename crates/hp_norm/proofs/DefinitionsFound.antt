-- A definition that is there is found.
use Rattle.std.proofs.Common.{◌≡◌, ℕ, Option, Some, Ok, slice_get, sym, ap, ◌∙◌, arith}
use Rattle.hp_lit.specs.declared.line.Body.{Body}
use Rattle.hp_lit.specs.declared.line.Body.TheVariants.{Apply}
use Rattle.hp_defs.specs.First.{IsFirst}
use Rattle.hp_defs.specs.Names.{bodies, definition_body}
use Rattle.hp_defs.specs.Same.{place}
use Rattle.hp_defs.proofs.First.{same_first}
use Rattle.hp_defs.proofs.Same.{place_is_exact}
use Rattle.hp_base.specs.Defining.{found_or_made}
use Rattle.hp_base.proofs.ArgsDefined.{get_map}
use Rattle.hp_norm.specs.Laws.{DefinitionsAreFound}

pub definitions_are_found : DefinitionsAreFound
definitions_are_found func args name g made d =
    let body : Body = Apply func args in
    let there : slice_get (bodies g.names) d.place ≡ Some body = get_map definition_body g.names.definitions d.place d.definition d.there ∙ ap Some d.has_body in
    let first : IsFirst body (bodies g.names) (Some d.place) = (there, λ j h. let same : j ≡ d.place = made.once j d.place body h there in omega (arith, same)) in
    let found = same_first body (bodies g.names) (place body g.names.definitions) (Some d.place) (place_is_exact body g.names.definitions) first in
    ap (λ (o : Option ℕ). found_or_made body o g) found ∙ (λ i. Ok (sym d.has_name i, g))
