use Rattle.std.proofs.Common.{◌∙◌, ◌++◌, ◌∷◌, [], pos}
use Rattle.std.proofs.lemmas.List.{replicate_more}
use Rattle.hp_math.specs.Rational.{whole}
use Rattle.hp_path.proofs.Places.{zero_is}
use Rattle.hp_path.proofs.placing.zeros.Goals as goal

pub loop-at-preserved : goal.loop-at-preserved
loop-at-preserved c = c.in_ok-push.ensures.ok ∙ (λ i. c.loop-at.invariant i ++ zero_is c.new.result c.new.ensures i ∷ []) ∙ replicate_more c.loop-at._at (whole (pos 0))
