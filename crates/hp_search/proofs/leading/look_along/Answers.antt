use Rattle.std.proofs.Common.{subst, sym, IfSome}
use Rattle.std.specs.List.{All}
use Rattle.hp_lit.specs.Fit.{IsFit}
use Rattle.hp_path.specs.Decided.{AreValuesFor}
use Rattle.hp_search.proofs.Reading.{lines_readable, place_fit}
use Rattle.hp_search.proofs.Showing.{found_open}
use Rattle.hp_search.proofs.leading.look_along.Goals as goal

pub values_at-requires : goal.values_at-requires
values_at-requires c =
    let ss = c.args.sorts.now in
    subst (All (IsFit ss)) (sym c.requires.lits) (place_fit ss c.args.lines.now c.requires.fit c.args.path.now)

pub next_false-requires : goal.next_false-requires
next_false-requires c =
    let ss = c.args.sorts.now in
    let found = subst (λ o. IfSome o (λ v. AreValuesFor ss c.args.lits.now v.values)) c.in-Some.is c.in_ok-values_at.ensures in
    lines_readable ss c.in-Some.values.values found.small c.args.lines.now c.requires.fit

pub returns-in-Some : goal.returns-in-Some
returns-in-Some c =
    let ss = c.args.sorts.now in
    let found = subst (λ o. IfSome o (λ v. AreValuesFor ss c.args.lits.now v.values)) c.in-Some.is c.in_ok-values_at.ensures in
    found_open ss c.args.lines.now c.args.path.now c.in-Some.values.values _ (subst (λ ls. AreValuesFor ss ls c.in-Some.values.values) c.requires.lits found) c.next_false.ensures
