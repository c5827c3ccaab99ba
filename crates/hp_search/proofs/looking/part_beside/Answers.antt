use Rattle.std.proofs.Common.{◌++◌, ◌∷◌, [], ◌∙◌, ap, subst, sym}
use Rattle.std.specs.List.{All}
use Rattle.hp_leaf.specs.Tree.{place_lits}
use Rattle.hp_lit.specs.Fit.{IsFit}
use Rattle.hp_search.proofs.Reading.{places_fit}
use Rattle.hp_search.proofs.looking.part_beside.Goals as goal

pub component_of_last-requires-clause-fit : goal.component_of_last-requires-clause-fit
component_of_last-requires-clause-fit c =
    let ss = c.args.sorts.now in
    let lines = c.args.lines.now in
    let one = c.args.choice ∷ [] in
    let all = c.as_slice.ensures ∙ c.in_ok-push_lits.ensures ∙ ap (λ q. q ++ place_lits lines one) c.in_ok-lits.ensures in
    subst (All (IsFit ss)) (sym all) (places_fit ss lines c.requires.fit c.args.path.now one)
