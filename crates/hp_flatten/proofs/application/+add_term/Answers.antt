use Rattle.std.proofs.Common.{◌≡◌, ◌++◌, List, ap, subst, sym, ◌∙◌}
use Rattle.std.specs.Result.{OnOk}
use Rattle.hp_tree.specs.declared.term.Term.{Term, Apply}
use Rattle.hp_flatten.specs.Applications.{applications}
use Rattle.hp_flatten.specs.declared.application.Application.{Application}
use Rattle.hp_flatten.proofs.Adding.{apply_behind, two_behind}
use Rattle.hp_flatten.proofs.application.+add_term.Goals as goal

pub add_term-returns-in_ok-add_application-in-Apply : goal.add_term-returns-in_ok-add_application-in-Apply
add_term-returns-in_ok-add_application-in-Apply t c =
    subst (λ (all : List Application). OnOk c.add_terms.result (c.add_terms.new.found ≡ all))
    (apply_behind c.args.term.now c.args.found.now c.add_application.new.found c.in-Apply.func c.as_slice-args.result.now
    (c.in-Apply.is ∙ ap (λ (args : List Term). Apply c.in-Apply.func args) (sym c.as_slice-args.ensures)) c.in_ok-add_application-in-Apply.ensures) c.add_terms.ensures

pub add_term-returns-in_ok-add_term-in-Add : goal.add_term-returns-in_ok-add_term-in-Add
add_term-returns-in_ok-add_term-in-Add t c =
    let left = ap (λ t. c.args.found.now ++ applications t) c.get-in-Add.ensures in
    let right = ap (λ t. c.add_term-in-Add.new.found ++ applications t) c.get-in-Add-2.ensures in
    subst (λ (all : List Application). OnOk c.add_term-in-Add-2.result (c.add_term-in-Add-2.new.found ≡ all))
    (right ∙ two_behind c.args.term.now c.args.found.now c.add_term-in-Add.new.found c.in-Add.left c.in-Add.right c.in-Add.is (c.in_ok-add_term-in-Add.ensures ∙ left)) c.add_term-in-Add-2.ensures
