use Rattle.std.proofs.Common.{◌∙◌, subst, sym, Ok}
use Rattle.std.specs.List.{All}
use Rattle.hp_lit.specs.Fit.{IsFit}
use Rattle.hp_path.specs.Decided.{AreOfChain, Decides}
use Rattle.hp_search.specs.Lines.{Judges}
use Rattle.hp_search.specs.Search.{IsStrainedAt}
use Rattle.hp_search.proofs.Reading.{lines_readable, place_fit}
use Rattle.hp_search.proofs.Showing.{caused, wide_strained}
use Rattle.hp_search.proofs.looking.look_exactly.Goals as goal

pub decide-requires-clause-fit : goal.decide-requires-clause-fit
decide-requires-clause-fit c =
    let ss = c.args.sorts.now in
    subst (All (IsFit ss)) (sym (c.as_slice.ensures ∙ c.in_ok-lits.ensures)) (place_fit ss c.args.lines.now c.requires.fit c.args.path.now)

pub first_false-requires-clause-readable : goal.first_false-requires-clause-readable
first_false-requires-clause-readable c =
    let ss = c.args.sorts.now in
    let decided = subst (λ d. Decides ss c.as_slice.result.now (Ok d)) c.in-Ok-Values.field-0-is c.in-Ok-Values.ensures in
    lines_readable c.args.sorts.now c.in-Ok-Values.values.values decided.0.small c.args.lines.now c.requires.fit

pub returns-clause-strained : goal.returns-clause-strained
returns-clause-strained c =
    let ss = c.args.sorts.now in
    let lines = c.args.lines.now in
    let v = c.in-Ok-Values.values.values in
    let chain = c.in-Ok-Values.chain in
    let decided = subst (λ d. Decides ss c.as_slice.result.now (Ok d)) c.in-Ok-Values.field-0-is c.in-Ok-Values.ensures in
    let made = subst (λ q. AreOfChain ss q chain v) (c.as_slice.ensures ∙ c.in_ok-lits.ensures) decided.1 in
    let sum = subst (Judges lines v) c.in-Wide.is c.in_ok-first_false-in-Ok-Values.ensures in
    caused lines c.args.path.now _ c.strained-in-Wide.result c.strained-in-Wide.ensures
    (subst (IsStrainedAt lines c.args.path.now) (sym c.strain_of.ensures) (wide_strained ss lines c.args.path.now v chain c.in-Wide.choice c.in-Wide.wide made c.requires.fit sum))
