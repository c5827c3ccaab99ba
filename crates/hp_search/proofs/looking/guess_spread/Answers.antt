use Rattle.std.proofs.Common.{subst, sym}
use Rattle.std.specs.List.{All}
use Rattle.hp_lit.specs.Fit.{IsFit}
use Rattle.hp_search.proofs.Reading.{place_fit}
use Rattle.hp_search.proofs.looking.guess_spread.Goals as goal

pub push_apart-requires : goal.push_apart-requires
push_apart-requires c =
    let ss = c.args.sorts.now in
    record { fit = subst (All (IsFit ss)) (sym c.in_ok-lits.ensures) (place_fit ss c.args.lines.now c.requires.fit c.args.singles.now) }
