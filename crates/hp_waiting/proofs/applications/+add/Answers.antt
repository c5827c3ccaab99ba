use Rattle.std.proofs.Common.{◌≡◌, List, subst, sym, ◌∙◌}
use Rattle.std.specs.Result.{OnOk}
use Rattle.hp_tree.specs.Value.{Word}
use Rattle.hp_waiting.proofs.OpenApplications.{functions_of_parts, functions_there, none_there}
use Rattle.hp_waiting.proofs.applications.+add.Goals as goal

pub add_term-returns-in_ok-push-in-Apply : goal.add_term-returns-in_ok-push-in-Apply
add_term-returns-in_ok-push-in-Apply t c =
    subst (λ (words : List Word). OnOk c.add_terms.result (c.add_terms.new.words ≡ words))
    (functions_there c.args.vars.now c.args.term.now c.in-Apply.func c.in-Apply.args c.in-Apply.is c.args.words.now c.push.new.self c.in_ok-copy-in-Apply.field-0 c.as_slice.result.now
    (sym c.mentions.ensures ∙ c.if-mentions.true) c.in_ok-push-in-Apply.ensures.ok c.in_ok-copy-in-Apply.ensures c.as_slice.ensures) c.add_terms.ensures

pub add_term-returns-else-mentions : goal.add_term-returns-else-mentions
add_term-returns-else-mentions t c =
    none_there c.args.vars.now c.args.term.now c.in-Apply.func c.in-Apply.args c.in-Apply.is c.args.words.now (sym c.mentions.ensures ∙ c.if-mentions.false)

pub add_term-returns-in_ok-add_term-in-Add : goal.add_term-returns-in_ok-add_term-in-Add
add_term-returns-in_ok-add_term-in-Add t c =
    subst (λ (words : List Word). OnOk c.add_term-in-Add-2.result (c.add_term-in-Add-2.new.words ≡ words))
    (functions_of_parts c.args.vars.now c.args.term.now c.in-Add.left c.in-Add.right c.in-Add.is c.args.words.now c.add_term-in-Add.new.words c.get-in-Add.result.now c.get-in-Add-2.result.now
    c.in_ok-add_term-in-Add.ensures c.get-in-Add.ensures c.get-in-Add-2.ensures) c.add_term-in-Add-2.ensures
