use Rattle.std.proofs.Common.{[], ◌∷◌, ◌++◌, ap, ◌∙◌, inl, inr, arith}
use Rattle.hp_tree.specs.declared.term.Term.{Name}
use Rattle.hp_tree.specs.declared.problem.Cmp.TheVariants.{Eq}
use Rattle.hp_local.specs.Rows.{argument_words}
use Rattle.hp_tables.proofs.Guards.{guard_end, guard_more}
use Rattle.hp_tables.proofs.tables.point_guard.Goals as goal
use Rattle.hp_tables.proofs.tables.point_guard.Goals.{then-loop-at-test+else-at-args, else-loop-at-test}

pub loop-at-preserved : goal.loop-at-preserved
loop-at-preserved c =
    let word = c.in_ok-from_slice.field-0 in
    guard_more argument_words c.args.args.now c.loop-at.at c.loop-at.guard c.push.new.self word c.index-args-at.result
    (omega (arith, c.loop-at-test.true)) c.if-at-args.true (c.in_ok-from_slice.ensures ∙ c.argument_word.ensures) c.index-args-at.is
    (c.in_ok-push.ensures.ok ∙ ap (λ t. c.loop-at.guard ++ record { left = Name word; cmp = Eq; right = t } ∷ []) c.in_ok-right.ensures)
    c.loop-at.invariant

pub returns : goal.returns
returns c = elim c.loop-at-test.branch [
  | then-loop-at-test+else-at-args w ↦ guard_end argument_words c.args.args.now c.loop-at.at c.loop-at.guard (inr (omega arith)) c.loop-at.invariant
  | else-loop-at-test w ↦ guard_end argument_words c.args.args.now c.loop-at.at c.loop-at.guard (inl (omega arith)) c.loop-at.invariant
]
