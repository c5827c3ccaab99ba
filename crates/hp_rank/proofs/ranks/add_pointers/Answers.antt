use Rattle.hp_tree.specs.declared.problem.Sort.TheVariants.{Num}
use Rattle.hp_rank.proofs.Steps.{pointers_step}
use Rattle.hp_rank.proofs.ranks.add_pointers.Goals as goal

pub loop-at-preserved : goal.loop-at-preserved
loop-at-preserved c =
    pointers_step c.args.found.now.items c.loop-at.found.items c.add_pointer.new.found.items c.args.sorts.now c.args.values.now c.loop-at.at Num c.index-values-at.result c.loop-at-test.true
    c.requires c.index-values-at.is c.loop-at.invariant c.in_ok-add_pointer.ensures
