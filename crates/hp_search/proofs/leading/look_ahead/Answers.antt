use Rattle.std.proofs.Common.{◌∙◌, subst, sym, IfSome}
use Rattle.std.specs.List.{All}
use Rattle.hp_lit.specs.Fit.{IsFit}
use Rattle.hp_search.proofs.Reading.{place_fit}
use Rattle.hp_search.proofs.Valuing.{lits_narrow}
use Rattle.hp_search.proofs.leading.look_ahead.Goals as goal

pub leaf_by-requires : goal.leaf_by-requires
leaf_by-requires c =
    let ss = c.args.sorts.now in
    lits_narrow ss _ (subst (All (IsFit ss)) (sym (c.as_slice-lits.ensures ∙ c.in_ok-owned.ensures)) (place_fit ss c.args.lines.now c.requires.fit c.args.path.now))
