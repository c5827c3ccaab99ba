use Rattle.std.proofs.Common.{subst, sym, IfSome}
use Rattle.std.specs.List.{All}
use Rattle.hp_lit.specs.Fit.{IsFit}
use Rattle.hp_path.specs.Decided.{AreValuesFor}
use Rattle.hp_search.proofs.Reading.{lines_readable, place_fit}
use Rattle.hp_search.proofs.Showing.{verdict_seen}
use Rattle.hp_search.proofs.leading.look_at_values.Goals as goal

pub values_at-requires : goal.values_at-requires
values_at-requires c =
    let ss = c.args.sorts.now in
    subst (All (IsFit ss)) (sym c.requires.lits) (place_fit ss c.args.lines.now c.requires.fit c.args.path.now)

pub are_true-requires : goal.are_true-requires
are_true-requires c =
    let ss = c.args.sorts.now in
    let found = subst (λ o. IfSome o (λ v. AreValuesFor ss c.args.lits.now v.values)) c.in-Some.is c.in_ok-values_at.ensures in
    lines_readable ss c.in-Some.values.values found.small c.args.lines.now c.requires.fit

pub first_false-requires-clause-readable : goal.first_false-requires-clause-readable
first_false-requires-clause-readable c =
    let ss = c.args.sorts.now in
    let found = subst (λ o. IfSome o (λ v. AreValuesFor ss c.args.lits.now v.values)) c.in-Some.is c.in_ok-values_at.ensures in
    lines_readable ss c.in-Some.values.values found.small c.args.lines.now c.requires.fit

pub returns-in_ok-verdict-in-Some : goal.returns-in_ok-verdict-in-Some
returns-in_ok-verdict-in-Some c =
    let ss = c.args.sorts.now in
    let found = subst (λ o. IfSome o (λ v. AreValuesFor ss c.args.lits.now v.values)) c.in-Some.is c.in_ok-values_at.ensures in
    verdict_seen ss c.args.lines.now c.args.path.now c.in-Some.values _ c.args.exact _ (subst (λ ls. AreValuesFor ss ls c.in-Some.values.values) c.requires.lits found) c.in_ok-verdict-in-Some.ensures c.seen_by.ensures
