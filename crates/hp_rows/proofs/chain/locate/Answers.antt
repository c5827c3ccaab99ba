use Rattle.std.proofs.Common.{◌≡◌, refl, ◌++◌, ◌∷◌, [], reverse, take, rules, Ok, subst}
use Rattle.hp_rows.specs.Lines.{equations}
use Rattle.hp_rows.specs.Points.{HavePivots}
use Rattle.hp_rows.proofs.Chains.{chain_so_far, one_line_more, point_fits, whole_chain}
use Rattle.hp_rows.proofs.chain.locate.Goals as goal

pub loop-at-init : goal.loop-at-init
unfolding HavePivots
loop-at-init c = rw c.new-lines.ensures (record { made = refl; pivots = tt })

pub next_line-requires-clause-next : goal.next_line-requires-clause-next
next_line-requires-clause-next c = rw c.split_at.ensures.front (chain_so_far c.args.rows.now c.args.chain.now c.loop-at.at c.loop-at-test.true c.requires.chain)

pub loop-at-preserved : goal.loop-at-preserved
loop-at-preserved c =
    let e = rw (c.in-Line.is, c.as_slice.ensures) at c.next_line.ensures in
    let g : c.push.new.self ≡ c.loop-at.lines ++ c.in-Line.line ∷ [] = search rules in
    let m = one_line_more c.args.rows.now c.args.width c.args.chain.now c.loop-at.at c.loop-at.lines c.push.new.self c.in-Line.line c.loop-at-test.true
    c.loop-at.invariant.made c.loop-at.invariant.pivots e.0 e.1 g in
    record { made = m.0; pivots = m.1 }

pub point_of-requires : goal.point_of-requires
point_of-requires c =
    let e : take c.loop-at.at c.args.chain.now ≡ c.args.chain.now = whole_chain c.args.chain.now c.loop-at.at c.loop-at.auto.at-end c.loop-at-test.false in
    let m = subst (λ l. equations c.args.rows.now (reverse l) ≡ Ok (reverse c.loop-at.lines)) e c.loop-at.invariant.made in
    rw c.as_slice-2.ensures (point_fits c.args.rows.now c.args.width c.requires.wide (reverse c.args.chain.now) c.loop-at.lines c.requires.chain m c.loop-at.invariant.pivots)
