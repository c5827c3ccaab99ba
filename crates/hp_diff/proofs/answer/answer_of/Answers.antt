use Rattle.std.proofs.Common.{◌≤◌, ◌+◌, ℕ, List, length, arith}
use Rattle.hp_lit.specs.declared.literal.IdxLit.{IdxLit}
use Rattle.hp_nodes.specs.Nodes.{AreNames}
use Rattle.hp_nodes.proofs.Mentions.{names_few}
use Rattle.hp_diff.specs.Rows.{mentioned}
use Rattle.hp_tree.specs.Limits.{largest_bound}
use Rattle.hp_diff.proofs.Building.{edges_fit}
use Rattle.hp_diff.proofs.Limits.{limit_least}
use Rattle.hp_diff.proofs.Points.{is_point}
use Rattle.hp_diff.proofs.Steps.{valid_steps, walk_within}
use Rattle.hp_diff.proofs.answer.answer_of.Goals as goal

at_most : (rows : List IdxLit) (names : List ℕ) → length rows ≤ 100000 → AreNames (mentioned rows) names → length names ≤ 200000
at_most rows names few ns = (let two = names_few IdxLit (λ row. row.left) (λ row. row.right) rows names ns in omega arith)

pub settle-requires-clause-nodes : goal.settle-requires-clause-nodes
settle-requires-clause-nodes c = (let most = at_most _ _ c.requires.few c.requires.names in omega arith)

pub named_values-requires-clause-few : goal.named_values-requires-clause-few
named_values-requires-clause-few c = at_most _ _ c.requires.few c.requires.names

pub settle-requires-clause-edges : goal.settle-requires-clause-edges
settle-requires-clause-edges c =
    let most = at_most _ _ c.requires.few c.requires.names in
    edges_fit _ _ _ (limit_least (length c.args.names.now + 1) largest_bound (omega arith) (omega arith)) c.requires.bounds c.requires.edges

pub returns-in_ok-named-in-Values : goal.returns-in_ok-named-in-Values
returns-in_ok-named-in-Values c =
    let settled = rw c.in-Values.is at c.in_ok-values.ensures in
    let named = rw c.deref.ensures.value at c.in_ok-named-in-Values.ensures in
    is_point _ _ _ _ _ c.requires.few c.requires.names c.requires.edges settled named

pub steps_of-requires : goal.steps_of-requires
steps_of-requires c =
    let settled = rw c.in-Cycle.is at c.in_ok-values.ensures in
    rw c.deref-in-Cycle.ensures.value (walk_within _ _ _ _ settled.walk)

pub returns-in_ok-steps-in-Cycle : goal.returns-in_ok-steps-in-Cycle
returns-in_ok-steps-in-Cycle c =
    let settled = rw c.in-Cycle.is at c.in_ok-values.ensures in
    rw (c.in_ok-steps-in-Cycle.ensures, c.deref-in-Cycle.ensures.value) (valid_steps _ _ _ c.requires.edges.each _ settled)
