use Rattle.std.proofs.Common.{FitsSigned, rules, ◌∙◌, ◌<ℤ◌, pos}
use Rattle.std.specs.Int.{w128}
use Rattle.std.proofs.lemmas.Int.{to_z-of_z}
use Rattle.hp_diff.proofs.Limits.{sum_fits, edge_small}
use Rattle.hp_diff.proofs.Shown.{next_followed, closed, followed_small}
use Rattle.hp_diff.proofs.parents.closed_walk.Goals as goal

pub loop-turn-preserved : goal.loop-turn-preserved
loop-turn-preserved c =
    let fits : FitsSigned w128 c.with_bound-sum.result = search rules in
    let sum = to_z-of_z w128 c.with_bound-sum.result fits ∙ c.with_bound-sum.ensures in
    rw c.in_ok-push-in-Some.ensures.items (next_followed _ _ _ _ _ _ _ _ c.requires.edges c.in-Some.ensures.within c.in-Some.ensures.to c.loop-turn.invariant _ sum)

pub returns-then-sum-lt0 : goal.returns-then-sum-lt0
returns-then-sum-lt0 c =
    let fits : FitsSigned w128 c.with_bound-sum.result = search rules in
    let next = next_followed _ _ _ _ _ _ _ _ c.requires.edges c.in-Some.ensures.within c.in-Some.ensures.to c.loop-turn.invariant _ c.with_bound-sum.ensures in
    let below : c.with_bound-sum.result <ℤ pos 0 = search (rules, to_z-of_z w128 c.with_bound-sum.result fits, c.if-sum-lt0.true) in
    rw c.in_ok-push-in-Some.ensures.items (closed _ _ _ _ _ _ _ next c.if-node-start.true below)

pub with_bound-sum-requires : goal.with_bound-sum-requires
with_bound-sum-requires c =
    let bound = edge_small _ _ (c.requires.edges.each _ c.in-Some.ensures.within) in
    let sum = followed_small _ _ _ _ _ _ _ c.loop-turn-test.true c.loop-turn.invariant in
    sum_fits _ _ sum.0 sum.1 bound.0 bound.1
