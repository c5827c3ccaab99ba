use Rattle.std.proofs.Common.{ap, ◌∙◌, arith}
use Rattle.std.specs.Int.{w128}
use Rattle.std.proofs.lemmas.Int.{to_z_pos}
use Rattle.hp_math.specs.Rational.{ratio, whole}
use Rattle.hp_rank.proofs.ranks.whole_number.Goals as goal

pub returns : goal.returns
unfolding whole
returns c = c.new.ensures ∙ ap (λ n. ratio n 1) (to_z_pos w128 c.args.number (omega arith))
