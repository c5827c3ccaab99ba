use Rattle.std.proofs.Common.{refl}
use Rattle.hp_groups.proofs.Grouping.{groups_more, groups_start}
use Rattle.hp_groups.proofs.classing.groups.Goals as goal

pub loop-func-init : goal.loop-func-init
loop-func-init c = record {
  so_far = groups_start c.args.names.now (record { flats = c.args.clauses.now; ruled = c.args.ruled.now }) c.args.order.now _ _ c.new-levels.ensures c.new-groups.ensures;
}

pub loop-func-preserved : goal.loop-func-preserved
loop-func-preserved c = record {
  so_far = groups_more c.args.names.now (record { flats = c.args.clauses.now; ruled = c.args.ruled.now }) c.args.order.now c.loop-func.func-index _ c.loop-func.levels c.add_group.new.levels
      c.loop-func.groups c.add_group.new.groups c.loop-func-test.true refl (c.requires.known c.loop-func.func-index 0 c.loop-func-test.true)
      c.in_ok-add_group.ensures.made c.in_ok-add_group.ensures.levels c.loop-func.invariant.so_far;
}
