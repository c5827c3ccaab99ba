use Rattle.std.proofs.Common.{◌∙◌, ap, ◌++◌, ◌∷◌, [], pos}
use Rattle.std.proofs.lemmas.List.{replicate-append-replicate}
use Rattle.hp_math.specs.Rational.{whole}
use Rattle.hp_rows.proofs.coordinates.zeros.Goals as goal

pub loop-at-preserved : goal.loop-at-preserved
loop-at-preserved c =
    c.in_ok-push.ensures.ok
    ∙ (λ i. c.loop-at.invariant i ++ (c.whole.ensures ∙ ap whole c.new.ensures) i ∷ [])
    ∙ replicate-append-replicate c.loop-at._at 1 (whole (pos 0))
