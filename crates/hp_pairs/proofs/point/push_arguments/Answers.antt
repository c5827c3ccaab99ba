use Rattle.hp_pairs.proofs.Solutions.{argument_more}
use Rattle.hp_pairs.proofs.point.push_arguments.Goals as goal

pub loop-place-preserved : goal.loop-place-preserved
loop-place-preserved c =
    argument_more c.args.names.now c.args.values.now c.loop-place.place c.count-others.result c.args.at.now c.loop-place.at c.push.new.self c.in_ok-name.name c.value_among-value.result
    c.count-others.ensures.names c.loop-place.invariant c.in_ok-push.ensures.ok c.in_ok-name.ensures c.value_among-value.ensures
