use Rattle.std.proofs.Common.{◌∙◌, subst, sym}
use Rattle.std.specs.List.{All}
use Rattle.hp_lit.specs.Fit.{IsFit}
use Rattle.hp_search.proofs.Reading.{place_fit}
use Rattle.hp_search.proofs.singles.close_singles.Goals as goal

pub decide_quickly-requires-clause-fit : goal.decide_quickly-requires-clause-fit
decide_quickly-requires-clause-fit c =
    let ss = c.args.sorts.now in
    subst (All (IsFit ss)) (sym (c.as_slice.ensures ∙ c.in_ok-lits.ensures)) (place_fit ss c.args.lines.now c.requires.fit c.args.singles.now)
