use Rattle.std.proofs.Common.{◌≡◌, List, ap, subst, sym, ◌∙◌}
use Rattle.std.specs.Result.{OnOk}
use Rattle.hp_tree.specs.declared.term.Term.{Term, Apply}
use Rattle.hp_norm.proofs.Applications.{gathered_apply}
use Rattle.hp_norm.proofs.trees.+gather.Goals as goal

pub gather-returns-in_ok-gather_all-in-Apply : goal.gather-returns-in_ok-gather_all-in-Apply
gather-returns-in_ok-gather_all-in-Apply t c =
    subst (λ (apps : List Term). OnOk c.note.result (c.note.new.self ≡ apps))
    (gathered_apply c.args.term.now c.in-Apply.func c.as_slice.result.now c.args.apps.now c.gather_all.new.apps
    (c.in-Apply.is ∙ ap (λ (args : List Term). Apply c.in-Apply.func args) (sym c.as_slice.ensures)) c.in_ok-gather_all-in-Apply.ensures) c.note.ensures
