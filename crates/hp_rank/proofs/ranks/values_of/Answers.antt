use Rattle.hp_tree.specs.declared.problem.Sort.TheVariants.{Num}
use Rattle.hp_rank.specs.Ranks.{place_in}
use Rattle.hp_rank.proofs.Steps.{ranked_step}
use Rattle.hp_rank.proofs.ranks.values_of.Goals as goal

pub loop-at-preserved : goal.loop-at-preserved
loop-at-preserved c =
    ranked_step (place_in c.args.inside.now c.args.beside.now) c.loop-at.ranked c.push.new.self c.args.sorts.now c.args.values.now c.loop-at.at Num c.index-values-at.result c.value_of.result
    c.loop-at-test.true c.requires.same c.index-values-at.is c.value_of.ensures c.loop-at.invariant c.in_ok-push.ensures.ok
