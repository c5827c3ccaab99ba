-- An application becomes the word of its definition: each argument is named and taken as an argument before the next one.
use Rattle.std.proofs.Common.{◌≡◌, ℕ, ◌≤◌, List, [], ◌∷◌, map, true, Option, Some, Ok, slice_get, refl, sym, ap, subst, ◌∙◌, arith}
use Rattle.std.specs.Prelude.{option_map}
use Rattle.std.specs.List.{All, AllZip}
use Rattle.std.proofs.lemmas.List.Elements.{All-nil, All-cons}
use Rattle.hp_tree.specs.declared.term.Term.{Term, Name, fold-roll-Term, roll-Term}
use Rattle.hp_tree.specs.declared.term.Term.TheOpen.{Term-F}
use Rattle.hp_tree.specs.declared.term.Term.TheVariants.{rolls-Name}
use Rattle.hp_tree.specs.declared.problem.Sort.{Sort}
use Rattle.hp_tree.specs.declared.problem.Sort.TheVariants.{Num, Idx, Ptr}
use Rattle.hp_tree.specs.Value.{Word, Environment, Functions, value}
use Rattle.hp_terms.specs.Scope.{Profile, Scope}
use Rattle.hp_terms.specs.Sorting.{application_forms, fit, forms_of, has_form, name_forms}
use Rattle.hp_terms.specs.Weight.{largest_offset}
use Rattle.hp_terms.proofs.Parts.{applications_follow_profiles}
use Rattle.hp_index.proofs.Layers.{Parts}
use Rattle.hp_lit.specs.declared.literal.Name as literal
use Rattle.hp_lit.specs.declared.line.Arg.{Arg}
use Rattle.hp_lit.specs.declared.line.Arg.TheVariants as arg
use Rattle.hp_lit.specs.declared.line.Body.TheVariants.{Apply}
use Rattle.hp_lit.specs.Truth.{Values}
use Rattle.hp_defs.specs.declared.names.Constant.{Constant}
use Rattle.hp_defs.specs.declared.names.Ground.{Ground}
use Rattle.hp_defs.specs.declared.names.Signature.{Signature}
use Rattle.hp_defs.specs.Fit.{ArgFits}
use Rattle.hp_defs.specs.Made.{IsSmallArg}
use Rattle.hp_defs.specs.Names.{result_sort, sorts}
use Rattle.hp_base.specs.Making.{Begins, ◌then◌, each}
use Rattle.hp_base.specs.Lines.{flat_scope}
use Rattle.hp_base.specs.Defining.{definition_of}
use Rattle.hp_base.specs.Arguments.{argument_of}
use Rattle.hp_base.specs.Laws.{IsDefined, definition_word}
use Rattle.hp_base.specs.Values.{arg_value, arg_values, signature_function}
use Rattle.hp_base.proofs.Making.{begins_same}
use Rattle.hp_base.proofs.Growing.{came}
use Rattle.hp_base.proofs.ArgsSteps.{gave}
use Rattle.hp_base.proofs.ArgsDefined.{defined_sort}
use Rattle.hp_base.proofs.ArgsDefinitions.{definitions_begin, definitions_fit, definitions_keep_fit, definitions_keep_made, definitions_keep_sums, definitions_say, definitions_stand}
use Rattle.hp_base.proofs.ArgsMade.{arguments_are_small, arguments_begin, arguments_fit, arguments_keep_fit, arguments_keep_made, arguments_keep_sums, arguments_say, arguments_stay_fit}
use Rattle.hp_base.proofs.ArgsScopes.{defined_names_have_words, defined_words_have_sorts}
use Rattle.hp_base.proofs.SumsHold.{sums_hold_by_bodies}
use Rattle.hp_norm.specs.Loads.{HasLightIndexes, Load, argument_sorts, arguments_load, load, load_step, places_of}
use Rattle.hp_norm.specs.Naming.{applied, applied_at, arguments, name_term, named, placed, placed_argument, signed}
use Rattle.hp_norm.specs.Sound.{AreValues, Grew, IsLater}
use Rattle.hp_norm.proofs.FormsKept.{KeepsForms, result_kept}
use Rattle.hp_norm.proofs.GroundsGrew.{argument_grew, definition_grew, grew_same, grew_through}
use Rattle.hp_norm.proofs.Loads.{placed_load}
use Rattle.hp_norm.proofs.NamedWords.{IsKnown, IsOver, function_is_known, scope_grows}
use Rattle.hp_norm.proofs.TermsKept.{IsKeptLayer, kept_layer, later_through}
use Rattle.hp_norm.proofs.TermsNamed.{by_names, IsNameableTerm, IsNamed, IsNamedAlways, named_to}

-- an argument of a sort is small where it is no index
small_of : (sorts : List Sort) (place : Sort) (x : Arg) → ArgFits sorts place x → (place ≡ Idx → IsSmallArg x) → IsSmallArg x
small_of sorts Num (arg.Number q) h small = tt
small_of sorts Num (arg.Named name) h small = tt
small_of sorts Num (arg.Index base offset) h small = absurd h
small_of sorts Num arg.Null h small = absurd h
small_of sorts Idx x h small = small refl
small_of sorts Ptr (arg.Number q) h small = absurd h
small_of sorts Ptr (arg.Named name) h small = tt
small_of sorts Ptr (arg.Index base offset) h small = absurd h
small_of sorts Ptr arg.Null h small = tt

module _ (scope : Scope) (item : ℕ) where
  abbrev Part : Type 0
  Part = Parts (IsNamedAlways scope item)

  abbrev terms : List Part → List Term
  terms args = map (λ (e : Part). e.0) args

  -- ---- arguments
  -- an argument was made: it has the sort of its place and the value of the term
  record IsArgument (term : Term) (place : Sort) (before after : Ground) (x : Arg) : Type 0 where
    grew : Grew before after
    over : IsOver scope after
    fits : ArgFits (sorts after.names) place x
    small : IsSmallArg x
    same : (end : Ground) (v : Values) (env : Environment) (functions : Functions) → IsLater after end → AreValues end v env functions → arg_value v x ≡ value env functions term

  argument_named : (term : Term) (place : Sort) (x : Arg) (before after : Ground) → IsNamedAlways scope item term → has_form (forms_of scope term) place ≡ true
      → HasLightIndexes scope term → (place ≡ Idx → (load scope term).own ≤ largest_offset)
      → IsOver scope before → placed_argument item (record { named = named item term; sort = place }) before ≡ Ok (x, after) → IsArgument term place before after x
  argument_named term place x before after always formed light own over e =
      let s = came (named item term before) (λ t. argument_of item place t) x after e in
      let h = always s.value before s.mid (record { sorted = record { sort = place; is = formed }; light = light }) over s.first in
      let sound = h.over.sound in
      let keeps = (h.kept.forms s.mid (record { begins = begins_same s.mid; made = sound.made })).sorts place formed in
      let fits = arguments_fit item place s.value x s.mid after s.rest sound.names keeps in
      let made = arguments_keep_made item place s.value x s.mid after s.rest sound.made in
      let begins = arguments_begin item place s.value x s.mid after s.rest in
      let less = h.kept.light in
      record {
        grew = grew_through before s.mid after h.grew (argument_grew item place s.value x s.mid after s.rest);
        over = record {
          sound = record { made = made; names = fits.1; lines = arguments_keep_fit item place s.value x s.mid after s.rest keeps sound.lines; sums = arguments_keep_sums item place s.value x s.mid after s.rest sound.sums };
          wider = scope_grows scope s.mid after begins made h.over.wider;
        };
        fits = fits.0;
        small = small_of (sorts after.names) place x fits.0 (λ is. let few = own is in arguments_are_small item place s.value x s.mid after s.rest (omega (arith, less, few)));
        same = λ end v env functions l values.
            arguments_say item place s.value x s.mid after end v env functions s.rest l.begins values.agrees (sums_hold_by_bodies functions end.names v values.extends) keeps
            ∙ h.kept.same end v env functions (later_through s.mid after end begins l) values;
      }

  record AreArguments (args : List Term) (places : List Sort) (before after : Ground) (xs : List Arg) : Type 0 where
    grew : Grew before after
    over : IsOver scope after
    fit : AllZip (ArgFits (sorts after.names)) places xs
    small : All IsSmallArg xs
    same : (end : Ground) (v : Values) (env : Environment) (functions : Functions) → IsLater after end → AreValues end v env functions → arg_values v xs ≡ map (value env functions) args

  arguments_to : (args : List Term) (places : List Sort) (before mid after : Ground) (xs ys : List Arg) → xs ≡ ys → mid ≡ after → AreArguments args places before mid xs → AreArguments args places before after ys
  arguments_to args places before mid after xs ys e f h = subst (λ (zs : List Arg). AreArguments args places before after zs) e (subst (λ (g : Ground). AreArguments args places before g xs) f h)

  arguments_named : (args : List Part) (places : List Sort) (xs : List Arg) (before after : Ground)
      → AllZip (λ arg place. has_form (forms_of scope arg) place ≡ true) (terms args) places → arguments_load places (map (load scope) (terms args)) ≤ largest_offset
      → IsOver scope before → arguments item places (map (named item) (terms args)) before ≡ Ok (xs, after) → AreArguments (terms args) places before after xs
  arguments_named [] [] xs before after h light over e =
      let g = gave [] xs before after e in
      arguments_to [] [] before before after [] xs g.value g.ground
      (record { grew = grew_same before; over = over; fit = tt; small = All-nil IsSmallArg; same = λ end v env functions l values. refl })
  arguments_named [] (place ∷ places) xs before after h light over e = absurd h
  arguments_named (arg ∷ args) [] xs before after h light over e = absurd h
  arguments_named (arg ∷ args) (place ∷ places) xs before after h light over e =
      let more = placed (map (named item) (terms args)) places in
      let s = came (placed_argument item (record { named = named item arg.0; sort = place }) before) (λ y. λ mid. each (placed_argument item) more mid then λ ys. λ end. Ok (y ∷ ys, end)) xs after e in
      let own = placed_load place (load scope arg.0) (omega (arith, light)) in
      let one = argument_named arg.0 place s.value before s.mid arg.1 h.0 own.inner own.own over s.first in
      let t = came (each (placed_argument item) more s.mid) (λ ys. λ end. Ok (s.value ∷ ys, end)) xs after s.rest in
      let rest = arguments_named args places t.value s.mid t.mid h.1 (omega (arith, light)) one.over t.first in
      let g = gave (s.value ∷ t.value) xs t.mid after t.rest in
      arguments_to (arg.0 ∷ terms args) (place ∷ places) before t.mid after (s.value ∷ t.value) xs g.value g.ground
      (record {
        grew = grew_through before s.mid t.mid one.grew rest.grew;
        over = rest.over;
        fit = (arguments_stay_fit s.mid t.mid place s.value rest.grew.begins one.fits, rest.fit);
        small = All-cons IsSmallArg s.value t.value one.small rest.small;
        same = λ end v env functions l values.
            (λ i. one.same end v env functions (later_through s.mid t.mid end rest.grew.begins l) values i ∷ rest.same end v env functions l values i);
      })

  -- ---- definitions
  module _ (word : Word) (args : List Term) (profile : Profile) (before mid after : Ground) (known : IsKnown before.names word profile) (xs : List Arg) (name : literal.Name)
      (given : AreArguments args known.signature.args before mid xs) (e : definition_of known.func xs mid ≡ Ok (name, after)) where
    abbrev own : Word
    own = definition_word after.names name

    signature_at : (end : Ground) → Begins after end → slice_get end.names.signatures known.func ≡ Some known.signature
    signature_at end b =
        ap (λ (ss : List Signature). slice_get ss known.func) (b.signatures ∙ (definitions_begin known.func xs name mid after e).signatures ∙ given.grew.begins.signatures) ∙ known.there

    defined_at : (end : Ground) → Begins after end → IsDefined end.names name (Apply known.func xs)
    defined_at end b = definitions_stand known.func xs name mid after end e b

    word_at : (end : Ground) → Begins after end → definition_word end.names name ≡ own
    word_at end b = ap (λ (cs : List Constant). definition_word (record { constants = cs; signatures = []; definitions = [] }) name) b.constants

    -- the word has the sort of the result
    own_sort : (end : Ground) → IsLater after end → (flat_scope end.names).name own ≡ Some profile.result
    own_sort end l =
        ap (λ (w : Word). (flat_scope end.names).name w) (sym (word_at end l.begins))
        ∙ defined_words_have_sorts end.names name (Apply known.func xs) l.made (defined_at end l.begins)
        ∙ defined_sort end.names name (Apply known.func xs) (defined_at end l.begins)
        ∙ ap (λ (o : Option Signature). Some (result_sort o)) (signature_at end l.begins)
        ∙ ap Some known.result

    -- and the value of the application
    own_value : (end : Ground) (v : Values) (env : Environment) (functions : Functions) → IsLater after end → AreValues end v env functions → env own ≡ functions word (map (value env functions) args)
    own_value end v env functions l values =
        let begins = definitions_begin known.func xs name mid after e in
        ap env (sym (word_at end l.begins))
        ∙ values.agrees name.0 (definition_word end.names name) (defined_names_have_words end.names name (Apply known.func xs) (defined_at end l.begins))
        ∙ definitions_say known.func xs name mid after end v functions e l.begins values.extends
        ∙ ap (λ (o : Option Signature). signature_function functions o (arg_values v xs)) (signature_at end l.begins)
        ∙ (λ i. functions (known.name i) (given.same end v env functions (later_through mid after end begins l) values i))

    word_over : IsOver scope after
    word_over =
        let begins = definitions_begin known.func xs name mid after e in
        let there = ap (λ (ss : List Signature). slice_get ss known.func) given.grew.begins.signatures ∙ known.there in
        let sound = given.over.sound in
        let made = definitions_keep_made known.func xs name mid after e given.small sound.made in
        record {
          sound = record {
            made = made;
            names = (definitions_fit known.func xs name mid after known.signature e there given.fit sound.names).1;
            lines = definitions_keep_fit known.func xs name mid after e sound.lines;
            sums = definitions_keep_sums known.func xs name mid after e sound.sums;
          };
          wider = scope_grows scope mid after begins made given.over.wider;
        }

    word_keeps : scope.function word ≡ Some profile → IsKeptLayer (by_names scope) after (Term-F.Apply word args) (Term-F.Name own)
    word_keeps is =
        let formed = map (forms_of scope) args in
        record {
          forms = λ end l.
              subst (λ (o : Option Profile). KeepsForms (application_forms formed o) (name_forms ((flat_scope end.names).name own))) (sym is)
              (subst (λ (o : Option Sort). KeepsForms (application_forms formed (Some profile)) (name_forms o)) (sym (own_sort end l)) (result_kept (fit formed profile.args) profile.result));
          first = λ end l. ap (option_map (λ (q : Profile). q.result)) is ∙ sym (own_sort end l);
          light = omega arith;
          same = own_value;
        }

  -- ---- applications
  pub application_named : (word : Word) (args : List Part) (flat : Term) (before after : Ground) → IsNameableTerm scope (roll-Term (Term-F.Apply word (terms args))) → IsOver scope before
      → applied item word (map (named item) (terms args)) before ≡ Ok (flat, after) → IsNamed (by_names scope) (roll-Term (Term-F.Apply word (terms args))) flat before after
  application_named word args flat before after able over e =
      let z : Term-F Term = Term-F.Apply word (terms args) in
      let makers = map (named item) (terms args) in
      let follows = applications_follow_profiles scope word (terms args) able.sorted.sort able.sorted.is in
      let known = function_is_known before.names word follows.profile (over.wider.functions word follows.profile follows.known) in
      let e1 = sym (ap (λ (o : Option ℕ). applied_at item makers o before) known.found ∙ ap (λ (o : Option Signature). signed item makers known.func o before) known.there) ∙ e in
      let s = came (arguments item known.signature.args makers before) (λ xs. λ mid. definition_of known.func xs mid then λ name. λ end. Ok (name_term end.names name, end)) flat after e1 in
      let zipped = subst (λ (places : List Sort). AllZip (λ arg place. has_form (forms_of scope arg) place ≡ true) (terms args) places) (sym known.args) follows.each in
      let loads = map (load scope) (terms args) in
      let indexes = ap (λ (l : Load). l.indexes) (fold-roll-Term Load (load_step (places_of scope)) z) ∙ ap (λ (o : Option Profile). arguments_load (argument_sorts o) loads) follows.known ∙ ap (λ (places : List Sort). arguments_load places loads) (sym known.args) in
      let light = subst (λ n. n ≤ largest_offset) indexes able.light in
      let given = arguments_named args known.signature.args s.value before s.mid zipped light over s.first in
      let t = came (definition_of known.func s.value s.mid) (λ name. λ end. Ok (name_term end.names name, end)) flat after s.rest in
      let g = gave (name_term t.mid.names t.value) flat t.mid after t.rest in
      let own_word = definition_word t.mid.names t.value in
      let keeps = word_keeps word (terms args) follows.profile before s.mid t.mid known s.value t.value given t.first follows.known in
      named_to (by_names scope) (roll-Term z) (roll-Term (Term-F.Name own_word)) (Name own_word) flat before t.mid after (rolls-Name own_word) g.value g.ground
      (record {
        grew = grew_through before s.mid t.mid given.grew (definition_grew known.func s.value t.value s.mid t.mid t.first);
        over = word_over word (terms args) follows.profile before s.mid t.mid known s.value t.value given t.first;
        kept = kept_layer (by_names scope) t.mid z (Term-F.Name own_word) keeps;
      })
