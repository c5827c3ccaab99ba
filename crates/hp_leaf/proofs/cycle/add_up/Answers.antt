use Rattle.std.proofs.Common.{sym, ◌∙◌, ap, ◌≡◌, arith, to_z, of_z, Ok}
use Rattle.std.specs.Int.{w128}
use Rattle.std.proofs.lemmas.Int.{ints}
use Rattle.hp_num.specs.Wide.{plus_of}
use Rattle.hp_leaf.specs.Check.{sum_from}
use Rattle.hp_leaf.proofs.Cycles.{sum_none, sum_step}
use Rattle.hp_leaf.proofs.cycle.add_up.Goals as goal
use Rattle.hp_leaf.proofs.cycle.add_up.Goals.{in-None, in-Some+in_ok-plus-in-Some}

pub loop-step-preserved : goal.loop-step-preserved
loop-step-preserved c = elim c.match-row_at.branch [
  | in-None w ↦ (λ rows r. let h = c.loop-step.invariant rows r in absurd (sum_none c.args.path.now c.args.steps.now c.loop-step.step-index _ c.loop-step-test.true w.in-None.ensures.none h.0 h.1))
  | in-Some+in_ok-plus-in-Some w ↦ (λ rows r.
      let h = c.loop-step.invariant rows r in
      let a : c.loop-step.total.sum ≡ to_z w128 (of_z w128 c.loop-step.total.sum) = omega (arith, ints) in
      let b : w.in-Some.row.bound ≡ to_z w128 (of_z w128 w.in-Some.row.bound) = omega (arith, ints) in
      let f : to_z w128 (of_z w128 w.in_ok-plus-in-Some.field-0) ≡ w.in_ok-plus-in-Some.field-0 = omega (arith, ints) in
      let p : plus_of c.loop-step.total.sum w.in-Some.row.bound ≡ Ok w.in_ok-plus-in-Some.field-0 = (λ i. plus_of (a i) (b i)) ∙ sym w.plus.ensures ∙ w.in_ok-plus-in-Some.was in
      let x = sum_step c.args.path.now c.args.steps.now c.loop-step.step-index _ c.loop-step.total.sum w.in_ok-plus-in-Some.field-0 w.in-Some.row _ c.loop-step-test.true w.in-Some.ensures.some p h.0 h.1 h.2 in
      (x.0, x.1, x.2 ∙ ap (λ n. sum_from n x.0) (sym (ap (λ t. t.sum) w.total-is ∙ f))))
]
