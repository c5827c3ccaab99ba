use Rattle.std.proofs.Common.{◌≡◌, ◌∙◌, refl, sym}
use Rattle.hp_defs.specs.declared.names.Ground.{Ground}
use Rattle.hp_base.specs.Making.{in_turn}
use Rattle.hp_base.proofs.Making.{begins_names, begins_same, makes_other}
use Rattle.hp_class.specs.Group.{plan_lines}
use Rattle.hp_defs.specs.Places.{places}
use Rattle.hp_class.specs.Places.{points_at}
use Rattle.hp_class.proofs.Stays.{flat_stays}
use Rattle.hp_tables.specs.Pairs.{ordered_pairs, pair_instance, pairs_plan}
use Rattle.hp_tables.proofs.InOrder.{all_inside}
use Rattle.hp_tables.proofs.PairLoops.{inside_still, plan_is, planned_end, planned_err, planned_more, planned_start}
use Rattle.hp_tables.proofs.PairsFit.{fit_still, function_fit}
use Rattle.hp_tables.proofs.pairs.add_pair_lines.Goals as goal

pub loop-lower-init : goal.loop-lower-init
loop-lower-init c = planned_start c.args.clause.now c.args.first_lower c.as_slice-places.result.now c.args.g.now c.requires.sound

pub returns-in_err-places-clause-kept : goal.returns-in_err-places-clause-kept
returns-in_err-places-clause-kept c = begins_same c.args.g.now

pub add_lines_below-requires-clause-flat : goal.add_lines_below-requires-clause-flat
add_lines_below-requires-clause-flat c =
    let t = c.loop-lower.invariant in
    flat_stays c.args.g.now.names c.loop-lower.g.names c.args.clause.now (begins_names c.args.g.now c.loop-lower.g t.begins) t.sound.made c.requires.flat

pub add_lines_below-requires-clause-inside : goal.add_lines_below-requires-clause-inside
add_lines_below-requires-clause-inside c =
    let g = c.args.g.now in
    let clause = c.args.clause.now in
    let ks = c.as_slice-places.result.now in
    let t = c.loop-lower.invariant in
    let is : ks ≡ places c.args.func g.names.definitions =
    c.as_slice-places.ensures ∙ c.in_ok-places.ensures ∙ c.of_function.ensures in
    let inside = all_inside c.args.func g.names.definitions g.names.definitions ks refl is in
    inside_still g c.loop-lower.g ks t.begins inside

pub add_lines_below-requires-clause-fit : goal.add_lines_below-requires-clause-fit
add_lines_below-requires-clause-fit c =
    let g = c.args.g.now in
    let clause = c.args.clause.now in
    let ks = c.as_slice-places.result.now in
    let t = c.loop-lower.invariant in
    let is : ks ≡ places c.args.func g.names.definitions =
    c.as_slice-places.ensures ∙ c.in_ok-places.ensures ∙ c.of_function.ensures in
    let inside = all_inside c.args.func g.names.definitions g.names.definitions ks refl is in
    fit_still g c.loop-lower.g clause c.args.first_lower ks t.begins t.sound.made c.requires.flat inside (function_fit c.args.func g clause c.args.first_lower ks is c.requires.fit)

pub returns-in_err-add_lines_below-clause-made : goal.returns-in_err-add_lines_below-clause-made
returns-in_err-add_lines_below-clause-made c =
    let g = c.args.g.now in
    let clause = c.args.clause.now in
    let ks = c.as_slice-places.result.now in
    let t = c.loop-lower.invariant in
    let is : ks ≡ places c.args.func g.names.definitions =
    c.as_slice-places.ensures ∙ c.in_ok-places.ensures ∙ c.of_function.ensures in
    let inside = all_inside c.args.func g.names.definitions g.names.definitions ks refl is in
    let all = λ (h : Ground). in_turn (pair_instance clause c.args.first_lower) (ordered_pairs (points_at h.names.definitions ks)) h in
    let result = c.from_residual-in_err-add_lines_below.result in
    let planned = planned_err clause c.args.first_lower ks c.loop-lower.lower-index c.loop-lower-test.true g c.loop-lower.g inside t c.add_lines_below.new.g c.in_err-add_lines_below.field-0.0 result
    c.in_err-add_lines_below.ensures.made c.from_residual-in_err-add_lines_below.ensures.1 in
    makes_other all (plan_lines (pairs_plan c.args.func c.args.first_lower clause g.names)) g c.add_lines_below.new.g result (sym (plan_is clause c.args.first_lower c.args.func ks g is)) planned

pub loop-lower-preserved : goal.loop-lower-preserved
loop-lower-preserved c =
    let g = c.args.g.now in
    let clause = c.args.clause.now in
    let ks = c.as_slice-places.result.now in
    let t = c.loop-lower.invariant in
    let is : ks ≡ places c.args.func g.names.definitions =
    c.as_slice-places.ensures ∙ c.in_ok-places.ensures ∙ c.of_function.ensures in
    let inside = all_inside c.args.func g.names.definitions g.names.definitions ks refl is in
    planned_more clause c.args.first_lower ks c.loop-lower.lower-index c.loop-lower-test.true g c.loop-lower.g inside t c.add_lines_below.new.g
    c.in_ok-add_lines_below.ensures.made c.add_lines_below.ensures.kept c.in_ok-add_lines_below.ensures.sound

pub returns-clause-made : goal.returns-clause-made
returns-clause-made c =
    let g = c.args.g.now in
    let clause = c.args.clause.now in
    let ks = c.as_slice-places.result.now in
    let t = c.loop-lower.invariant in
    let is : ks ≡ places c.args.func g.names.definitions =
    c.as_slice-places.ensures ∙ c.in_ok-places.ensures ∙ c.of_function.ensures in
    let inside = all_inside c.args.func g.names.definitions g.names.definitions ks refl is in
    sym (plan_is clause c.args.first_lower c.args.func ks g is) ∙ planned_end clause c.args.first_lower ks c.loop-lower.lower-index g c.loop-lower.g c.loop-lower-test.false t
