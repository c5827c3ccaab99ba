use Rattle.std.proofs.Common.{sym, ◌∙◌, ap, subst, arith, length, map}
use Rattle.std.specs.List.{All}
use Rattle.hp_lit.specs.declared.literal.Lit.TheVariants.{Idx}
use Rattle.hp_lit.specs.Cycle.{IsValidIdx}
use Rattle.hp_diff.specs.Rows.{IsDiffAnswer}
use Rattle.hp_lit.specs.Fit.{IsSmallBound}
use Rattle.hp_leaf.specs.Renumbered.{renumbered_steps}
use Rattle.hp_leaf.proofs.Renumbered.{idx_placed}
use Rattle.hp_path.specs.Kinds.{idx_lits}
use Rattle.hp_path.specs.Parted.{idx_places}
use Rattle.hp_path.proofs.Mixed.{fewer_rows, small_bounds}
use Rattle.hp_path.proofs.Splitting.{rows_stand}
use Rattle.hp_path.proofs.rows.decide_rows.Goals as goal

pub decide-requires-clause-few : goal.decide-requires-clause-few
decide-requires-clause-few c =
    let e = ap length (c.as_slice.ensures ∙ c.requires.parts.rows) in
    omega (arith, e, fewer_rows c.args.lits.now, c.requires.few)

pub decide-requires-clause-bounds : goal.decide-requires-clause-bounds
decide-requires-clause-bounds c =
    subst (All (λ row. IsSmallBound row.bound)) (sym (c.as_slice.ensures ∙ c.requires.parts.rows)) (small_bounds c.args.sorts.now c.args.lits.now c.requires.fit)

pub returns-in_ok-steps-in-Cycle : goal.returns-in_ok-steps-in-Cycle
returns-in_ok-steps-in-Cycle c =
    let lits = c.args.lits.now in
    let rows = c.as_slice.ensures ∙ c.requires.parts.rows in
    let h : IsValidIdx (map Idx c.as_slice.result.now) c.in-Cycle.steps = subst (IsDiffAnswer c.as_slice.result.now) c.in-Cycle.is c.in_ok-point.ensures in
    let v : IsValidIdx (map Idx (idx_lits lits)) c.in-Cycle.steps = subst (λ rs. IsValidIdx (map Idx rs) c.in-Cycle.steps) rows h in
    subst (IsValidIdx lits)
    (sym (c.in_ok-steps-in-Cycle.ensures ∙ (λ i. renumbered_steps ((c.as_slice-in-Cycle.ensures ∙ c.requires.parts.row_places) i) (c.as_slice-in-Cycle-2.ensures i))))
    (idx_placed lits (map Idx (idx_lits lits)) (idx_places 1 lits) c.in-Cycle.steps (rows_stand lits) v)
