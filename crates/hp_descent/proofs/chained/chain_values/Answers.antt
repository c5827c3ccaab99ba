use Rattle.std.proofs.Common.{◌+◌, sym, ◌∙◌, subst, length, reverse}
use Rattle.hp_rows.specs.Rows.{AreWide, IsChain}
use Rattle.hp_descent.specs.Columns.{columns}
use Rattle.hp_descent.specs.LiteralRows.{rows_of}
use Rattle.hp_descent.proofs.Numbering.{are_wide, same_rows, same_width}
use Rattle.hp_descent.proofs.Located.{count_from_one, is_chain, is_point, same_located}
use Rattle.hp_descent.proofs.chained.chain_values.Goals as goal

pub rows_from-requires : goal.rows_from-requires
rows_from-requires c = count_from_one c.args.lits.now c.args.chain.now c.requires.chain

pub locate-requires-clause-wide : goal.locate-requires-clause-wide
locate-requires-clause-wide c =
    let e = c.as_slice.ensures ∙ same_rows c.args.lits.now c.args.names.now c.in_ok-rows.rows c.requires.columns c.in_ok-rows.ensures in
    let w = same_width c.args.lits.now c.args.names.now c.requires.columns in
    subst (λ rs. AreWide (length c.args.names.now + 1) rs) (sym e) (subst (λ v. AreWide v (rows_of c.args.lits.now)) (sym w) (are_wide (columns c.args.lits.now) c.args.lits.now))

pub locate-requires-clause-chain : goal.locate-requires-clause-chain
locate-requires-clause-chain c =
    let e = c.as_slice.ensures ∙ same_rows c.args.lits.now c.args.names.now c.in_ok-rows.rows c.requires.columns c.in_ok-rows.ensures in
    let h = is_chain c.args.lits.now c.args.chain.now c.in_ok-chain.chain c.requires.chain c.in_ok-chain.ensures in
    subst (λ rs. IsChain rs (reverse c.as_slice-2.result.now)) (sym e) (rw c.as_slice-2.ensures h)

pub values_at-requires-clause-point : goal.values_at-requires-clause-point
values_at-requires-clause-point c =
    let e = c.as_slice.ensures ∙ same_rows c.args.lits.now c.args.names.now c.in_ok-rows.rows c.requires.columns c.in_ok-rows.ensures in
    let w = same_width c.args.lits.now c.args.names.now c.requires.columns in
    let h = rw (c.in-Point.is, c.as_slice-2.ensures) at (same_located c.args.lits.now (length c.args.names.now + 1) c.as_slice.result.now c.as_slice-2.result.now c.locate.result e w c.locate.ensures) in
    rw (c.as_slice-in-Point.ensures, c.as_slice-in-Point-2.ensures)
    (is_point c.args.lits.now c.args.chain.now c.in_ok-chain.chain c.requires.chain c.in_ok-chain.ensures c.in-Point.point h)
