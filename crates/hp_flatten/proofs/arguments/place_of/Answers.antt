use Rattle.std.proofs.lemmas.Iterator.Adapters.{position_from-zero}
use Rattle.hp_flatten.specs.Flattening.{is_named}
use Rattle.hp_flatten.proofs.arguments.place_of.Goals as goal

pub loop-at-init : goal.loop-at-init
loop-at-init c = position_from-zero (is_named c.args.word.now) c.args.args.now
