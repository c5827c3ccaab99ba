use Rattle.std.proofs.Common.{refl, ap, ◌∙◌, rules, FitsSigned}
use Rattle.std.specs.Int.{w128}
use Rattle.std.proofs.lemmas.Int.{to_z-of_z}
use Rattle.hp_math.specs.Rational.{whole}
use Rattle.hp_nodes.proofs.Values.{next_named}
use Rattle.hp_diff.proofs.answer.named_values.Goals as goal

pub loop-at-preserved : goal.loop-at-preserved
loop-at-preserved c =
    let fits : FitsSigned w128 c.offset.result = search rules in
    let value = c.whole_number.ensures ∙ ap whole (to_z-of_z w128 c.offset.result fits ∙ c.offset.ensures.value) in
    rw c.in_ok-push.ensures.ok (next_named _ _ _ _ _ c.loop-at-test.true refl value c.loop-at.invariant)
