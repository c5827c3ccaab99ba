-- What is defined as an application of a function has arguments of its sorts, and the sort of its result.
use Rattle.std.proofs.Common.{◌≡◌, ◌∙◌, ℕ, Option, Some, drop, refl, sym, ap, subst, slice_get}
use Rattle.std.specs.List.{AllZip}
use Rattle.std.proofs.lemmas.List.{take-append-drop}
use Rattle.hp_lit.specs.declared.line.Body.{Body}
use Rattle.hp_lit.specs.declared.line.Body.TheVariants.{Apply}
use Rattle.hp_defs.specs.declared.names.Signature.{Signature}
use Rattle.hp_defs.specs.Fit.{ArgFits, BodyFits}
use Rattle.hp_defs.specs.Made.{IsSmallBody}
use Rattle.hp_defs.specs.Names.{BeginsNames, NameList, bodies, definition_body, first_names, result_sort, sorts}
use Rattle.hp_defs.proofs.Fitting.{bodies_stay_fit}
use Rattle.hp_base.specs.Laws.{ApplicationsArePoints}
use Rattle.hp_base.proofs.ArgsDefined.{defined_sort, get_map}
use Rattle.hp_base.proofs.SumsHold.{all_get}

-- the names begin with those before a definition
begins_first : (k : ℕ) (names : NameList) → BeginsNames (first_names k names) names
begins_first k names = record { constants = refl; signatures = refl; definitions = record { more = drop k names.definitions; all = sym (take-append-drop k names.definitions) } }

known_same : (o : Option Signature) (known signature : Signature) → o ≡ Some known → o ≡ Some signature → known ≡ signature
known_same o known signature e f = let both : Some known ≡ Some signature = sym e ∙ f in cc

pub applications_are_points : ApplicationsArePoints
applications_are_points names name func args signature made fit d known =
    let body = Apply func args in
    let there : BodyFits (first_names d.place names) body = subst (λ (b : Body). BodyFits (first_names d.place names) b) d.has_body (fit d.place d.definition d.there) in
    let here : BodyFits names body = bodies_stay_fit body (first_names d.place names) names (begins_first d.place names) there in
    let same = known_same (slice_get names.signatures func) here.known signature here.found known in
    let at = get_map definition_body names.definitions d.place d.definition d.there ∙ ap Some d.has_body in
    record {
      name = defined_sort names name body d ∙ ap (λ (o : Option Signature). Some (result_sort o)) known;
      args = subst (λ (s : Signature). AllZip (ArgFits (sorts names)) s.args args) same here.args_fit;
      small = all_get IsSmallBody (bodies names) d.place body made.small at;
    }
