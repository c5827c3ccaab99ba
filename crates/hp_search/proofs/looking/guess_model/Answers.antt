use Rattle.std.proofs.Common.{◌∙◌, subst, sym}
use Rattle.std.specs.List.{All}
use Rattle.hp_lit.specs.Fit.{IsFit}
use Rattle.hp_search.proofs.Reading.{place_fit}
use Rattle.hp_search.proofs.looking.guess_model.Goals as goal

pub values_of-requires-clause-lits : goal.values_of-requires-clause-lits
values_of-requires-clause-lits c =
    let ss = c.args.sorts.now in
    subst (All (IsFit ss)) (sym (c.as_slice-2.ensures ∙ c.in_ok-lits.ensures)) (place_fit ss c.args.lines.now c.requires.fit c.as_slice.result.now)
