use Rattle.hp_diff.proofs.States.{shows}
use Rattle.hp_diff.proofs.Steps.{walk_within}
use Rattle.hp_diff.proofs.state.shown_steps.Goals as goal

pub steps_of-requires : goal.steps_of-requires
steps_of-requires c =
    let found = rw (c.in-Some-2.is, c.as_slice-edges.ensures) at c.in_ok-closed_walk.ensures in
    rw (c.deref.ensures.value, c.as_slice-edges.ensures) (walk_within _ _ _ _ found.walk)

pub returns-in_ok-steps-in-Some-2 : goal.returns-in_ok-steps-in-Some-2
returns-in_ok-steps-in-Some-2 c =
    let found = rw (c.in-Some-2.is, c.as_slice-edges.ensures) at c.in_ok-closed_walk.ensures in
    let steps = rw (c.as_slice-edges.ensures, c.deref.ensures.value) at c.in_ok-steps-in-Some-2.ensures in
    shows _ _ _ found steps
