use Rattle.std.proofs.Common.{◌∙◌, subst, sym, Ok, IfSome}
use Rattle.std.specs.List.{All}
use Rattle.hp_lit.specs.Fit.{IsFit}
use Rattle.hp_path.specs.Decided.{AreOfChain, Decides}
use Rattle.hp_search.specs.Lines.{IsWideChoice}
use Rattle.hp_search.specs.Search.{IsStrainedAt}
use Rattle.hp_search.proofs.Reading.{lines_readable, place_fit}
use Rattle.hp_search.proofs.Showing.{wide_strained}
use Rattle.hp_search.proofs.looking.strain_over.Goals as goal

pub decide-requires-clause-fit : goal.decide-requires-clause-fit
decide-requires-clause-fit c =
    let ss = c.args.sorts.now in
    subst (All (IsFit ss)) (sym (c.as_slice.ensures ∙ c.in_ok-lits.ensures)) (place_fit ss c.args.lines.now c.requires.fit c.args.path.now)

pub wide_at-requires : goal.wide_at-requires
wide_at-requires c =
    let ss = c.args.sorts.now in
    let decided = subst (λ d. Decides ss c.as_slice.result.now (Ok d)) c.in-Ok-Values.field-0-is c.in-Ok-Values.ensures in
    lines_readable c.args.sorts.now c.in-Ok-Values.values.values decided.0.small c.args.lines.now c.requires.fit

pub returns-in-Some : goal.returns-in-Some
returns-in-Some c =
    let ss = c.args.sorts.now in
    let lines = c.args.lines.now in
    let v = c.in-Ok-Values.values.values in
    let chain = c.in-Ok-Values.chain in
    let decided = subst (λ d. Decides ss c.as_slice.result.now (Ok d)) c.in-Ok-Values.field-0-is c.in-Ok-Values.ensures in
    let made = subst (λ q. AreOfChain ss q chain v) (c.as_slice.ensures ∙ c.in_ok-lits.ensures) decided.1 in
    let sum = subst (λ w. IfSome w (IsWideChoice lines v c.args.choice)) c.in-Some.is c.wide_at.ensures in
    subst (IsStrainedAt lines c.args.path.now) (sym c.strain_of.ensures) (wide_strained ss lines c.args.path.now v chain c.args.choice c.in-Some.wide made c.requires.fit sum)
