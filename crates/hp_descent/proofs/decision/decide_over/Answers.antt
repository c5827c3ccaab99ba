use Rattle.std.proofs.Common.{◌+◌, sym, ap, ◌∙◌, subst, length, map}
use Rattle.std.specs.List.{All}
use Rattle.hp_lit.specs.declared.literal.Lit.TheVariants.{Num}
use Rattle.hp_lit.specs.Leaf.{IsValidNum}
use Rattle.hp_rows.specs.Rows.{AreWide}
use Rattle.hp_descent.specs.Columns.{columns}
use Rattle.hp_descent.specs.LiteralRows.{rows_of}
use Rattle.hp_descent.specs.inner.Shares.{IsNarrow, shares_of}
use Rattle.hp_descent.proofs.Numbering.{are_wide, same_rows, same_width, same_answer}
use Rattle.hp_descent.proofs.Farkas.{valid_leaf}
use Rattle.hp_descent.proofs.decision.decide_over.Goals as goal

pub descend-requires : goal.descend-requires
descend-requires c =
    let e = c.as_slice.ensures ∙ same_rows c.args.lits.now c.args.names.now c.in_ok-rows.rows c.requires.columns c.in_ok-rows.ensures in
    let w = same_width c.args.lits.now c.args.names.now c.requires.columns in
    subst (λ rs. AreWide (length c.args.names.now + 1) rs) (sym e) (subst (λ v. AreWide v (rows_of c.args.lits.now)) (sym w) (are_wide (columns c.args.lits.now) c.args.lits.now))

pub solution-requires-clause-point : goal.solution-requires-clause-point
solution-requires-clause-point c =
    let e = c.as_slice.ensures ∙ same_rows c.args.lits.now c.args.names.now c.in_ok-rows.rows c.requires.columns c.in_ok-rows.ensures in
    let w = same_width c.args.lits.now c.args.names.now c.requires.columns in
    let h = rw c.in-Point.is at (same_answer c.args.lits.now (length c.args.names.now + 1) c.as_slice.result.now c.descend.result e w c.descend.ensures) in
    rw (c.as_slice-in-Point.ensures, c.as_slice-in-Point-2.ensures) h

pub returns-in-Contradiction : goal.returns-in-Contradiction
returns-in-Contradiction c =
    let e = c.as_slice.ensures ∙ same_rows c.args.lits.now c.args.names.now c.in_ok-rows.rows c.requires.columns c.in_ok-rows.ensures in
    let w = same_width c.args.lits.now c.args.names.now c.requires.columns in
    let h = rw c.in-Contradiction.is at (same_answer c.args.lits.now (length c.args.names.now + 1) c.as_slice.result.now c.descend.result e w c.descend.ensures) in
    let shares = c.in_ok-shares-in-Contradiction.ensures.shares ∙ ap (shares_of c.args.lits.now) c.as_slice-in-Contradiction.ensures in
    subst (IsValidNum (map Num c.args.lits.now)) (sym shares) (valid_leaf c.args.lits.now c.in-Contradiction.times h (subst (All IsNarrow) shares c.in_ok-shares-in-Contradiction.ensures.narrow))
