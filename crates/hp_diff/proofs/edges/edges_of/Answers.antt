use Rattle.std.proofs.Common.{arith, subst}
use Rattle.std.proofs.lemmas.List.{take_all}
use Rattle.std.proofs.lemmas.Option.{slice_get-get_or}
use Rattle.std.specs.List.{All}
use Rattle.hp_diff.specs.inner.Edges.{IsCovered}
use Rattle.hp_diff.proofs.Building.{add_exact, add_inexact, nothing_built}
use Rattle.hp_diff.proofs.edges.edges_of.Goals as goal
use Rattle.hp_diff.proofs.edges.edges_of.Goals.{then-row+in_ok-push-2, else-row}

pub loop-at-preserved : goal.loop-at-preserved
loop-at-preserved c =
    let row = slice_get-get_or c.args.rows.now c.loop-at.at _ c.loop-at-test.true in
    let one = c.edge_of.ensures in
    elim c.if-row.branch [
      | then-row+in_ok-push-2 w ↦
          (let two = w.edge_of-then-row.ensures in
          rw (w.edges-is, w.in_ok-push-2.ensures.items, c.in_ok-push.ensures.items)
          (add_exact _ _ _ _ _ _ _ row one.lit one.forward one.over two.lit two.forward two.over w.if-row.true c.loop-at.invariant))
      | else-row w ↦
          rw (w.edges-is, c.in_ok-push.ensures.items)
          (add_inexact _ _ _ _ _ _ row one.lit one.forward one.over w.if-row.false c.loop-at.invariant)
    ]

pub loop-at-init : goal.loop-at-init
loop-at-init c = rw c.new-edges.ensures.items (nothing_built _ _)

pub returns : goal.returns
returns c = record {
  each = c.loop-at.invariant.each;
  cover = subst (All (IsCovered c.args.names.now c.loop-at.edges.items)) (take_all c.loop-at.at c.args.rows.now (omega arith)) c.loop-at.invariant.cover;
}
