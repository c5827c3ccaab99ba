use Rattle.std.proofs.Common.{◌∙◌, ◌++◌, ◌∷◌, []}
use Rattle.std.proofs.lemmas.List.{replicate_more}
use Rattle.hp_path.proofs.chains.filled.Goals as goal

pub loop-at-preserved : goal.loop-at-preserved
loop-at-preserved c = c.in_ok-push.ensures.ok ∙ (λ i. c.loop-at.invariant i ++ c.args.number ∷ []) ∙ replicate_more c.loop-at._at c.args.number
