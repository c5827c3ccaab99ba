use Rattle.std.proofs.Common.{◌∙◌, ◌++◌, ◌∷◌, [], List, ap, sym}
use Rattle.hp_tree.specs.declared.problem.Sort.{Sort}
use Rattle.hp_defs.specs.Names.{sorts}
use Rattle.hp_solve.proofs.Sorts.{take_next}
use Rattle.hp_solve.proofs.solving.sorts_of.Goals as goal

pub loop-at-preserved : goal.loop-at-preserved
loop-at-preserved c =
    c.in_ok-push.ensures.ok ∙ ap (λ (ss : List Sort). ss ++ c.sort.result ∷ []) c.loop-at.invariant ∙ sym (take_next (sorts c.args.names.now) c.loop-at.at c.sort.result c.sort.ensures)
