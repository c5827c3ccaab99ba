use Rattle.std.proofs.Common.{◌≡◌, ◌∙◌, ◌∷◌, [], sym}
use Rattle.hp_lit.specs.declared.line.Arg.TheVariants.{Named}
use Rattle.hp_base.specs.Congruence.{body_args}
use Rattle.hp_base.proofs.Making.{begins_same, makes_other}
use Rattle.hp_instance.specs.declared.tuple.Tuple.{Tuple}
use Rattle.hp_instance.specs.Instances.{instance}
use Rattle.hp_tables.specs.Pairs.{first_arg, pair_args, pair_at}
use Rattle.hp_tables.proofs.PairsFit.{pair_fits, pair_is, pair_sound, sound_then}
use Rattle.hp_tables.proofs.pairs.add_pair_line.Goals as goal

pub instantiate-requires : goal.instantiate-requires
instantiate-requires c =
    let d = c.index-definitions-lower.result in
    let e = c.index-definitions-upper.result in
    let args_are : c.as_slice.result.now ≡ pair_args c.args.first_lower (first_arg (body_args d.body)) (first_arg (body_args e.body)) =
    c.as_slice.ensures ∙ c.in_ok-args.ensures ∙ (λ j. pair_args c.args.first_lower (c.first_arg.ensures j) (c.first_arg-2.ensures j)) in
    let shown_are : c.as_slice-2.result.now ≡ Named d.name ∷ Named e.name ∷ [] = c.as_slice-2.ensures ∙ c.in_ok-shown.ensures in
    pair_fits c.args.g.now c.args.clause.now c.args.first_lower c.args.lower c.args.upper c.definitions-definitions.result.now d e c.as_slice.result.now c.as_slice-2.result.now
    c.definitions-definitions.ensures.definitions c.requires.lower c.requires.upper c.index-definitions-lower.is c.index-definitions-upper.is args_are shown_are c.requires.fit

pub returns-in_err-args-clause-kept : goal.returns-in_err-args-clause-kept
returns-in_err-args-clause-kept c = begins_same c.args.g.now

pub returns-in_err-shown-clause-kept : goal.returns-in_err-shown-clause-kept
returns-in_err-shown-clause-kept c = begins_same c.args.g.now

pub returns-clause-made : goal.returns-clause-made
returns-clause-made c =
    let d = c.index-definitions-lower.result in
    let e = c.index-definitions-upper.result in
    let args = c.as_slice.result.now in
    let shown = c.as_slice-2.result.now in
    let args_are : args ≡ pair_args c.args.first_lower (first_arg (body_args d.body)) (first_arg (body_args e.body)) =
    c.as_slice.ensures ∙ c.in_ok-args.ensures ∙ (λ j. pair_args c.args.first_lower (c.first_arg.ensures j) (c.first_arg-2.ensures j)) in
    let shown_are : shown ≡ Named d.name ∷ Named e.name ∷ [] = c.as_slice-2.ensures ∙ c.in_ok-shown.ensures in
    let t : Tuple = record { args = args; shown = shown } in
    let is = pair_is c.args.g.now c.args.clause.now c.args.first_lower c.args.lower c.args.upper c.definitions-definitions.result.now d e args shown
    c.definitions-definitions.ensures.definitions c.requires.lower c.requires.upper c.index-definitions-lower.is c.index-definitions-upper.is args_are shown_are in
    makes_other (instance c.args.clause.now t) (pair_at c.args.clause.now c.args.first_lower c.args.lower c.args.upper) c.args.g.now c.instantiate.new.ground c.instantiate.result (sym is) c.instantiate.ensures.made

pub returns-clause-sound : goal.returns-clause-sound
returns-clause-sound c =
    let d = c.index-definitions-lower.result in
    let e = c.index-definitions-upper.result in
    let args = c.as_slice.result.now in
    let shown = c.as_slice-2.result.now in
    let args_are : args ≡ pair_args c.args.first_lower (first_arg (body_args d.body)) (first_arg (body_args e.body)) =
    c.as_slice.ensures ∙ c.in_ok-args.ensures ∙ (λ j. pair_args c.args.first_lower (c.first_arg.ensures j) (c.first_arg-2.ensures j)) in
    let shown_are : shown ≡ Named d.name ∷ Named e.name ∷ [] = c.as_slice-2.ensures ∙ c.in_ok-shown.ensures in
    let t : Tuple = record { args = args; shown = shown } in
    let sound = pair_sound c.args.g.now c.args.clause.now c.args.first_lower c.args.lower c.args.upper c.definitions-definitions.result.now d e args shown
    c.definitions-definitions.ensures.definitions c.requires.lower c.requires.upper c.index-definitions-lower.is c.index-definitions-upper.is args_are shown_are c.requires.sound c.requires.flat c.requires.fit in
    sound_then (instance c.args.clause.now t) c.args.g.now c.instantiate.new.ground c.instantiate.result c.instantiate.ensures.made sound
