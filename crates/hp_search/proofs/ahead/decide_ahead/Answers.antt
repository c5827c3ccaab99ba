use Rattle.std.proofs.Common.{◌++◌, ◌∙◌, ap, length, refl, subst, sym}
use Rattle.std.specs.List.{All}
use Rattle.hp_leaf.specs.Leaf.{IsValid}
use Rattle.hp_leaf.specs.Tree.{place_lits}
use Rattle.hp_lit.specs.Fit.{IsFit}
use Rattle.hp_path.specs.Decided.{AreValuesFor, DecidesQuickly}
use Rattle.hp_search.proofs.Closing.{first_leaf, first_values}
use Rattle.hp_search.proofs.Reading.{place_count, places_fit}
use Rattle.hp_search.proofs.ahead.decide_ahead.Goals as goal

pub decide_quickly-requires-clause-fit : goal.decide_quickly-requires-clause-fit
decide_quickly-requires-clause-fit c =
    let ss = c.args.sorts.now in
    let lines = c.args.lines.now in
    let all = c.as_slice.ensures ∙ c.in_ok-push_lits.ensures ∙ ap (λ q. q ++ place_lits lines c.args.singles.now) c.in_ok-lits.ensures in
    subst (All (IsFit ss)) (sym all) (places_fit ss lines c.requires.fit c.args.path.now c.args.singles.now)

pub returns-in-Values : goal.returns-in-Values
returns-in-Values c =
    let ss = c.args.sorts.now in
    let lines = c.args.lines.now in
    let v = c.in-Values.values.values in
    let all = c.as_slice.ensures ∙ c.in_ok-push_lits.ensures ∙ ap (λ q. q ++ place_lits lines c.args.singles.now) c.in_ok-lits.ensures in
    first_values ss (place_lits lines c.args.path.now) (place_lits lines c.args.singles.now) v
    (subst (λ q. AreValuesFor ss q v) all (subst (DecidesQuickly ss c.as_slice.result.now) c.in-Values.is c.in_ok-values.ensures))

pub returns-then-is_within : goal.returns-then-is_within
returns-then-is_within c =
    let ss = c.args.sorts.now in
    let lines = c.args.lines.now in
    let proof = c.in-Leaf.proof in
    let all = c.as_slice.ensures ∙ c.in_ok-push_lits.ensures ∙ ap (λ q. q ++ place_lits lines c.args.singles.now) c.in_ok-lits.ensures in
    first_leaf (place_lits lines c.args.path.now) (place_lits lines c.args.singles.now) proof (length c.args.path.now) (sym (place_count lines c.args.path.now)) (c.if-is_within.ensures refl)
    (subst (λ q. IsValid q proof) all (subst (DecidesQuickly ss c.as_slice.result.now) c.in-Leaf.is c.in_ok-values.ensures))
