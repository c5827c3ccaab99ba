use Rattle.hp_lit.specs.declared.line.Def.{Def}
use Rattle.hp_index_set.specs.IndexSet.{body_indexes}
use Rattle.hp_index_set.proofs.Adding.{added_next}
use Rattle.hp_index_set.proofs.applied.add_applied.Goals as goal

pub loop-definition-preserved : goal.loop-definition-preserved
loop-definition-preserved c =
    added_next (λ (d : Def). body_indexes c.args.own.now d.body) c.args.indexes.now c.loop-definition.indexes c.add_arguments.new.indexes c.args.definitions.now c.loop-definition.definition-index
    c.definition-item.result c.loop-definition-test.true c.definition-item.is c.in_ok-add_arguments.ensures c.loop-definition.invariant
