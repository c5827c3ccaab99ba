use Rattle.std.proofs.Common.{◌≡◌, List, Ok, ap, sym, subst, ◌∙◌}
use Rattle.hp_tree.specs.declared.problem.Sort.{Sort}
use Rattle.hp_tree.specs.Value.{Word}
use Rattle.hp_lit.specs.declared.line.Arg.{Arg}
use Rattle.hp_index.specs.Forms.{index_of}
use Rattle.hp_base.specs.Arguments.{argument_of, form_argument}
use Rattle.hp_base.proofs.arguments.argument.Goals as goal

pub returns-in-Idx-clause-made : goal.returns-in-Idx-clause-made
returns-in-Idx-clause-made c =
    let g = c.args.g.now in
    let arg = c.form_argument.result in
    let same : arg ≡ form_argument (index_of c.words.result.now c.args.term.now) = c.form_argument.ensures ∙ ap form_argument c.small_form.ensures.form in
    subst (λ (s : Sort). argument_of c.args.item s c.args.term.now g ≡ Ok (arg, g)) (sym c.in-Idx.is)
    (ap (λ (a : Arg). Ok (a, g)) (sym (same ∙ ap (λ (ws : List Word). form_argument (index_of ws c.args.term.now)) c.words.ensures.words)))
