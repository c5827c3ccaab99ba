use Rattle.std.proofs.Common.{◌≤◌, ◌∙◌, length, subst, sym}
use Rattle.std.specs.List.{All}
use Rattle.hp_lit.specs.Fit.{IsFit}
use Rattle.hp_search.proofs.Reading.{place_fit, place_few}
use Rattle.hp_search.proofs.ahead.decide_alone.Goals as goal

pub decide_patiently-requires-clause-fit : goal.decide_patiently-requires-clause-fit
decide_patiently-requires-clause-fit c =
    let ss = c.args.sorts.now in
    subst (All (IsFit ss)) (sym (c.as_slice.ensures ∙ c.in_ok-lits.ensures)) (place_fit ss c.args.lines.now c.requires.fit c.args.path.now)

pub decide_patiently-requires-clause-few : goal.decide_patiently-requires-clause-few
decide_patiently-requires-clause-few c = subst (λ q. length q ≤ 100000) (sym (c.as_slice.ensures ∙ c.in_ok-lits.ensures)) (place_few c.args.lines.now c.args.path.now c.requires.path)
