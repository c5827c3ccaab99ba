use Rattle.std.proofs.Common.{◌∙◌, ap}
use Rattle.hp_math.specs.Rational.{whole}
use Rattle.hp_search.proofs.Valuing.{value_good}
use Rattle.hp_search.proofs.known.value_of.Goals as goal

pub returns : goal.returns
returns c = value_good c.args.sort.now c.kept.result _ (c.whole.ensures ∙ ap whole c.new.ensures) c.kept.ensures.small c.kept.ensures.from
