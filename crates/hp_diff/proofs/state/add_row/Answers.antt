use Rattle.std.proofs.Common.{subst, List, append_assoc, ◌++◌, ◌∷◌, [], true, false}
use Rattle.hp_diff.specs.declared.edges.Edge.{Edge}
use Rattle.hp_diff.specs.inner.RowEdges.{edge_of, back_edges, Shows}
use Rattle.hp_diff.proofs.States.{shows_more}
use Rattle.hp_diff.proofs.state.add_row.Goals as goal

pub add_edge-requires-clause-fit : goal.add_edge-requires-clause-fit
add_edge-requires-clause-fit c = rw c.edge_of.ensures (c.requires.fit true)

pub returns-in-Some-clause-ok : goal.returns-in-Some-clause-ok
returns-in-Some-clause-ok c =
    let a = rw (c.in-Some.is, c.edge_of.ensures) at c.in_ok-steps.ensures.ok in
    let old = c.args.state.now.net.edges in
    let first = edge_of c.args.lit c.args.row.now true ∷ [] in
    let back = back_edges c.args.lit c.args.row.now c.args.row.now.exact in
    (a.0, a.1, subst (λ (es : List Edge). Shows es c.in-Some.steps) (append_assoc old first back) (shows_more (old ++ first) back c.in-Some.steps a.2))

pub add_edge-requires-then-row-clause-fit : goal.add_edge-requires-then-row-clause-fit
add_edge-requires-then-row-clause-fit c = rw c.edge_of-then-row.ensures (c.requires.fit false)
